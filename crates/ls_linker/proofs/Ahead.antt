-- Statements before others; a block is replaced by its statements.
use Rattle.std.proofs.Common.{◌≡◌, ℕ, ◌+◌, arith}
use Rattle.ls_lowered.specs.LoweredTree.{Statement, Statements, Done, Then, File}
use Rattle.ls_refs.specs.Lowered.{joined, ahead}
use Rattle.ls_refs.proofs.Ahead.{by_inner}
use Rattle.ls_finally.specs.Flat.{tries, all_tries}
use Rattle.ls_finally.specs.Placed.{IsPlacedStatement, ArePlaced}
use Rattle.ls_linker.proofs.Flattens.{Flattens, AllFlatten}

joined_tries : (ss rest : Statements) → all_tries (joined ss rest) ≡ all_tries ss + all_tries rest
joined_tries Done rest = omega arith
joined_tries (Then s ss) rest = omega (arith, joined_tries ss rest)

-- how many `try`s a statement before others has with these
pub ahead_tries : (s : Statement) (rest : Statements) → all_tries (ahead s rest) ≡ tries s + all_tries rest
ahead_tries s rest = by_inner (λ s all. all_tries all ≡ tries s + all_tries rest) s rest (omega arith)
    (λ ss. joined_tries ss rest)

module _ (ms : File) (k : ℕ) where
  joined_placed : (ss rest : Statements) → ArePlaced ms k ss → ArePlaced ms k rest → ArePlaced ms k (joined ss rest)
  joined_placed Done rest h r = r
  joined_placed (Then s ss) rest h r = (h.0, joined_placed ss rest h.1 r)

  -- each local exists, also in a statement before others
  pub ahead_placed : (s : Statement) (rest : Statements) →
      IsPlacedStatement ms k s →
      ArePlaced ms k rest →
      ArePlaced ms k (ahead s rest)
  ahead_placed s rest =
      by_inner (λ s all. IsPlacedStatement ms k s → ArePlaced ms k rest → ArePlaced ms k all) s rest (λ h r. (h, r))
      (λ ss h r. joined_placed ss rest h r)

  joined_flatten : (around : ℕ) (ss rest : Statements) →
      AllFlatten ms k around ss →
      AllFlatten ms k around rest →
      AllFlatten ms k around (joined ss rest)
  joined_flatten around Done rest h r = r
  joined_flatten around (Then s ss) rest h r = (h.0, joined_flatten around ss rest h.1 r)

  -- a statement before others has a form without `try`
  pub ahead_flatten : (around : ℕ) (s : Statement) (rest : Statements) →
      Flattens ms k around s →
      AllFlatten ms k around rest →
      AllFlatten ms k around (ahead s rest)
  ahead_flatten around s rest =
      by_inner (λ s all. Flattens ms k around s → AllFlatten ms k around rest → AllFlatten ms k around all) s rest
      (λ h r. (h, r)) (λ ss h r. joined_flatten around ss rest h r)
