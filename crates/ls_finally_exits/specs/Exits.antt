-- `try b finally f` by copies of f, where b and f have no `try` left (JLS 14.20.2). Each exit of b gets its own copy,
-- and none of them lies in the region that is guarded.
use Rattle.std.specs.Prelude.{ℕ, zero, suc, ◌+◌, List, [], ◌∷◌, ◌++◌, length, Option, Some, None}
use Rattle.ls_finally_copies.specs.Ways.{both, guarded, first_ways}
use Rattle.ls_lowered.specs.LoweredTree.{Statement, Block, SetLocal, SetField, AddField, SetItem, Evaluate, If, While}
use Rattle.ls_lowered.specs.LoweredTree.{Return, Try, Guarded, Throw, Leavable, Leave, Statements, Done, Then, Local}

-- how far a leave goes beyond so many numbers
abbrev pub outward : (inside n : ℕ) → Option ℕ
outward zero n = Some n
outward (suc inside) zero = None
outward (suc inside) (suc n) = outward inside n

-- how many statements
abbrev pub count : Statements → ℕ
count Done = 0
count (Then s ss) = suc (count ss)

-- a leave out of a statement, or a return
pub data Exit : Type 0 where
  LeaveOut : (exit : ℕ) → Exit
  ReturnOut : Exit

abbrev pub leave_exit : Option ℕ → List Exit
leave_exit None = []
leave_exit (Some n) = LeaveOut n ∷ []

-- the exits of a statement whose target is beyond so many numbers, in text order
abbrev mutual
  pub exits : ℕ → Statement → List Exit
  exits l (Block ss) = all_exits l ss
  exits l (SetLocal n e) = []
  exits l (SetField e f a) = []
  exits l (AddField e f a) = []
  exits l (SetItem a i e) = []
  exits l (Evaluate e) = []
  exits l (If e a b) = exits l a ++ exits l b
  exits l (While e s) = exits l s
  exits l (Return e) = ReturnOut ∷ []
  exits l (Try b f) = exits l b ++ exits l f
  exits l (Guarded b n h) = exits l b ++ exits l h
  exits l (Throw n) = []
  exits l (Leavable b xs) = exits (suc (count xs) + l) b ++ all_exits l xs
  exits l (Leave n) = leave_exit (outward l n)

  pub all_exits : ℕ → Statements → List Exit
  all_exits l Done = []
  all_exits l (Then s ss) = exits l s ++ all_exits l ss

abbrev pub or_leave : Option ℕ → ℕ → ℕ → Statement
or_leave None n j = Leave n
or_leave (Some beyond) n j = Leave j

-- a statement inside so many numbers, with each of its exits as a leave of its own, numbered from j on beyond these; a
-- value that is returned is kept in local r
abbrev mutual
  pub replaced : ℕ → ℕ → ℕ → Statement → Statement
  replaced r l j (Block ss) = Block (all_replaced r l j ss)
  replaced r l j (SetLocal n e) = SetLocal n e
  replaced r l j (SetField e f a) = SetField e f a
  replaced r l j (AddField e f a) = AddField e f a
  replaced r l j (SetItem a i e) = SetItem a i e
  replaced r l j (Evaluate e) = Evaluate e
  replaced r l j (If e a b) = If e (replaced r l j a) (replaced r l (j + length (exits l a)) b)
  replaced r l j (While e s) = While e (replaced r l j s)
  replaced r l j (Return e) = both (SetLocal r e) (Leave (l + j))
  replaced r l j (Try b f) = Try b f
  replaced r l j (Guarded b n h) = Guarded (replaced r l j b) n (replaced r l (j + length (exits l b)) h)
  replaced r l j (Throw n) = Throw n
  replaced r l j (Leavable b xs) =
      Leavable (replaced r (suc (count xs) + l) j b) (all_replaced r l (j + length (exits (suc (count xs) + l) b)) xs)
  replaced r l j (Leave n) = or_leave (outward l n) n (l + j)

  pub all_replaced : ℕ → ℕ → ℕ → Statements → Statements
  all_replaced r l j Done = Done
  all_replaced r l j (Then s ss) = Then (replaced r l j s) (all_replaced r l (j + length (exits l s)) ss)

-- the exit itself; a value that is returned was evaluated before (JLS 14.17)
abbrev pub exit_of : ℕ → Exit → Statement
exit_of r (LeaveOut n) = Leave n
exit_of r ReturnOut = Return (Local r)

-- each exit after its own copy of the block
abbrev pub ways : ℕ → Statement → List Exit → Statements
ways r f [] = Done
ways r f (x ∷ xs) = Then (both f (exit_of r x)) (ways r f xs)

-- Locals k and k + 1 keep the kind of a throw and a value that is returned while f runs. Exit 0 is where b completes
-- normally, exit 1 where it throws, and the others are the exits of b.
abbrev pub finally_of : ℕ → Statement → Statement → Statement
finally_of k b f =
    Leavable (guarded k (replaced (k + 1) 0 2 b)) (first_ways k f (ways (k + 1) f (exits 0 b)))
