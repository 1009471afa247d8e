-- No tree that is made has a `try`.
use Rattle.std.proofs.Common.{ℕ, ◌+◌, ◌*◌, suc, List, [], ◌∷◌, length, Option, Some, None}
use Rattle.ls_lowered.specs.LoweredTree.{Statement, Block, SetLocal, SetField, AddField, SetItem, Evaluate, If, While}
use Rattle.ls_lowered.specs.LoweredTree.{Return, Try, Guarded, Throw, Leavable, Leave, Statements, Done, Then}
use Rattle.ls_finally_exits.specs.Exits.{outward, count, Exit, LeaveOut, ReturnOut, exits, or_leave, replaced}
use Rattle.ls_finally_exits.specs.Exits.{all_replaced, exit_of, ways, finally_of}
use Rattle.ls_finally.specs.Flat.{tries, flat, all_flat}

abbrev mutual
  -- a statement without `try`
  pub HasNoTry : Statement → Type 0
  HasNoTry (Block ss) = HaveNoTry ss
  HasNoTry (If e a b) = HasNoTry a × HasNoTry b
  HasNoTry (While e s) = HasNoTry s
  HasNoTry (Try b f) = ⊥
  HasNoTry (Guarded b n h) = HasNoTry b × HasNoTry h
  HasNoTry (Leavable b xs) = HasNoTry b × HaveNoTry xs
  HasNoTry _ = Unit {0}

  -- statements without `try`
  pub HaveNoTry : Statements → Type 0
  HaveNoTry Done = Unit {0}
  HaveNoTry (Then s ss) = HasNoTry s × HaveNoTry ss

leave_none : (o : Option ℕ) (n j : ℕ) → HasNoTry (or_leave o n j)
leave_none None n j = tt
leave_none (Some m) n j = tt

mutual
  replaced_none : (s : Statement) (r l j : ℕ) → HasNoTry s → HasNoTry (replaced r l j s)
  replaced_none (Block ss) r l j t = all_replaced_none ss r l j t
  replaced_none (SetLocal n e) r l j t = tt
  replaced_none (SetField e f a) r l j t = tt
  replaced_none (AddField e f a) r l j t = tt
  replaced_none (SetItem a i e) r l j t = tt
  replaced_none (Evaluate e) r l j t = tt
  replaced_none (If e a b) r l j t = (replaced_none a r l j t.0, replaced_none b r l (j + length (exits l a)) t.1)
  replaced_none (While e s) r l j t = replaced_none s r l j t
  replaced_none (Return e) r l j t = (tt, (tt, tt))
  replaced_none (Try b f) r l j t = absurd t
  replaced_none (Guarded b n h) r l j t = (replaced_none b r l j t.0, replaced_none h r l (j + length (exits l b)) t.1)
  replaced_none (Throw n) r l j t = tt
  replaced_none (Leavable b xs) r l j t = (
    replaced_none b r (suc (count xs) + l) j t.0,
    all_replaced_none xs r l
        (j + length (exits (suc (count xs) + l) b)) t.1,
  )
  replaced_none (Leave n) r l j t = leave_none (outward l n) n (l + j)

  all_replaced_none : (ss : Statements) (r l j : ℕ) → HaveNoTry ss → HaveNoTry (all_replaced r l j ss)
  all_replaced_none Done r l j t = tt
  all_replaced_none (Then s ss) r l j t = (
    replaced_none s r l j t.0,
    all_replaced_none ss r l (j + length (exits l s)) t.1,
  )

exit_none : (r : ℕ) (x : Exit) → HasNoTry (exit_of r x)
exit_none r (LeaveOut n) = tt
exit_none r ReturnOut = tt

ways_none : (r : ℕ) (f : Statement) (xs : List Exit) → HasNoTry f → HaveNoTry (ways r f xs)
ways_none r f [] t = tt
ways_none r f (x ∷ xs) t = ((t, (exit_none r x, tt)), ways_none r f xs t)

finally_none : (k : ℕ) (b f : Statement) → HasNoTry b → HasNoTry f → HasNoTry (finally_of k b f)
finally_none k b f t u = (
  ((replaced_none b (k + 1) 0 2 t, tt), (tt, tt)),
  (u, ((u, (tt, tt)), ways_none (k + 1) f (exits 0 b) u)),
)

mutual
  -- the lowered form of a statement has no `try`
  pub flat_none : (s : Statement) (k : ℕ) → HasNoTry (flat k s)
  flat_none (Block ss) k = all_flat_none ss k
  flat_none (SetLocal n e) k = tt
  flat_none (SetField e f a) k = tt
  flat_none (AddField e f a) k = tt
  flat_none (SetItem a i e) k = tt
  flat_none (Evaluate e) k = tt
  flat_none (If e a b) k = (flat_none a k, flat_none b (k + 2 * tries a))
  flat_none (While e s) k = flat_none s k
  flat_none (Return e) k = tt
  flat_none (Try b f) k = finally_none (k + 2 * tries b + 2 * tries f) (flat k b) (flat (k + 2 * tries b) f)
      (flat_none b k) (flat_none f (k + 2 * tries b))
  flat_none (Guarded b n h) k = (flat_none b k, flat_none h (k + 2 * tries b))
  flat_none (Throw n) k = tt
  flat_none (Leavable b xs) k = (flat_none b k, all_flat_none xs (k + 2 * tries b))
  flat_none (Leave n) k = tt

  all_flat_none : (ss : Statements) (k : ℕ) → HaveNoTry (all_flat k ss)
  all_flat_none Done k = tt
  all_flat_none (Then s ss) k = (flat_none s k, all_flat_none ss (k + 2 * tries s))
