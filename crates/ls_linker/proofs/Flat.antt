-- The form without `try` of a tree in range has code.
use Rattle.std.proofs.Common.{◌≡◌, ℕ, suc, ◌+◌, ◌*◌, ◌≤◌, refl, ap, subst, arith}
use Rattle.ls_lowered.specs.LoweredTree.{Statement, Block, SetLocal, SetField, AddField, SetItem, Evaluate, If, While}
use Rattle.ls_lowered.specs.LoweredTree.{Return, Try, Guarded, Throw, Leavable, Leave, Statements, Done, Then, File}
use Rattle.ls_finally.specs.Flat.{tries, all_tries, flat, all_flat}
use Rattle.ls_emit.specs.Emittable.{statement_count, IsEmittableStatement, AreEmittableStatements}
use Rattle.ls_linker.proofs.Flattens.{Flattens, AllFlatten}
use Rattle.ls_linker.proofs.Exits.{finally_in}

flat_count : (ss : Statements) (j : ℕ) → statement_count (all_flat j ss) ≡ statement_count ss
flat_count Done j = refl
flat_count (Then s ss) j = ap suc (flat_count ss (j + 2 * tries s))

module _ (ms : File) (k : ℕ) where
  mutual
    -- the form of a statement without `try` has code
    pub flat_in : (j around : ℕ) (s : Statement) →
        j + 2 * tries s ≤ k →
        Flattens ms k around s →
        IsEmittableStatement ms k around (flat j s)
    flat_in j around (Block ss) room h = all_flat_in j around ss room h
    flat_in j around (SetLocal n e) room h = h
    flat_in j around (SetField e f a) room h = h
    flat_in j around (AddField e f a) room h = h
    flat_in j around (SetItem a i e) room h = h
    flat_in j around (Evaluate e) room h = h
    flat_in j around (If e a b) room h = (
      h.0,
      flat_in j around a (omega (arith, room)) h.1,
      flat_in (j + 2 * tries a) around b (omega (arith, room))
          h.2,
    )
    flat_in j around (While e s) room h = (h.0, flat_in j around s room h.1)
    flat_in j around (Return e) room h = h
    flat_in j around (Try b f) room h =
        finally_in ms k (j + 2 * tries b + 2 * tries f) around (flat j b) (flat (j + 2 * tries b) f)
        (omega (arith, room))
        (flat_in j around b (omega (arith, room)) h.0) (flat_in (j + 2 * tries b) around f (omega (arith, room)) h.1)
    flat_in j around (Guarded b n x) room h = absurd h
    flat_in j around (Throw n) room h = absurd h
    flat_in j around (Leavable b xs) room h =
        let many : suc (statement_count xs) + around ≡ suc (statement_count (all_flat (j + 2 * tries b) xs)) + around =
        omega (arith, flat_count xs (j + 2 * tries b)) in (
          subst (λ n. IsEmittableStatement ms k n (flat j b)) many
              (flat_in j (suc (statement_count xs) + around) b (omega (arith, room)) h.0),
          all_flat_in (j + 2 * tries b) around xs (omega (arith, room)) h.1,
        )
    flat_in j around (Leave n) room h = h

    pub all_flat_in : (j around : ℕ) (ss : Statements) →
        j + 2 * all_tries ss ≤ k →
        AllFlatten ms k around ss →
        AreEmittableStatements ms k around (all_flat j ss)
    all_flat_in j around Done room h = tt
    all_flat_in j around (Then s ss) room h = (
      flat_in j around s (omega (arith, room)) h.0,
      all_flat_in (j + 2 * tries s) around ss (omega (arith, room))
          h.1,
    )
