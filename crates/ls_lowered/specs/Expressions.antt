-- The courses of expressions. Operands are evaluated from left to right. The test for null comes after them.
use Rattle.std.specs.Prelude.{ℕ, zero, suc, ◌/◌, ◌%◌, ◌^◌, pos, List, [], ◌∷◌, nat_eq, int_lt, slice_index, slice_set}
use Rattle.std.specs.Prelude.{if◌then◌else◌, ◌+◌}
use Rattle.ls_events.specs.declared.kind.Kind.TheVariants.{Arithmetic, NegativeArraySize}
use Rattle.ls_events.specs.declared.action.Action.TheVariants as act
use Rattle.ls_lowered.specs.declared.tree.UnaryOperator.{UnaryOperator}
use Rattle.ls_lowered.specs.declared.tree.UnaryOperator.TheVariants.{Negate, Not, ReferenceOf, MarkOf}
use Rattle.ls_lowered.specs.declared.tree.BinaryOperator.{BinaryOperator}
use Rattle.ls_lowered.specs.declared.tree.BinaryOperator.TheVariants as op
use Rattle.ls_lowered.specs.declared.tree.LockOperation.{LockOperation}
use Rattle.ls_lowered.specs.declared.tree.LockOperation.TheVariants.{Lock, Unlock, TryLock, IsHeld, LockMonitor}
use Rattle.ls_lowered.specs.declared.tree.LockOperation.TheVariants.{UnlockMonitor}
use Rattle.ls_lowered.specs.LoweredTree.{Expression, Word, Local, Unary, Binary, And, Or, Hold, Keep, After, Field}
use Rattle.ls_lowered.specs.LoweredTree.{Item, SetFirst, ReadPair, SetPair, SwapPair, AttemptMark, OnLock, Call}
use Rattle.ls_lowered.specs.LoweredTree.{MakeObject, MakeLock, MakeMarkable, MakeArray, Expressions, End, More}
use Rattle.ls_lowered.specs.Words.{bool_of, int_of, sum_word, difference_word, product_word, quotient_word}
use Rattle.ls_lowered.specs.Words.{remainder_word, negative_word, less_word, at_most_word, same_word, not_word}
use Rattle.ls_lowered.specs.Words.{other_word, pair_word}
use Rattle.ls_lowered.specs.Course.{Answers, Course, Ends, Outcome, Results, Throws, Calls, and_then, ask, perform}
use Rattle.ls_lowered.specs.Course.{unless_null, returned}

abbrev pub unary_word : UnaryOperator → ℕ → ℕ
unary_word Negate x = negative_word x
unary_word Not x = not_word x
unary_word ReferenceOf x = x / 2
unary_word MarkOf x = x % 2

abbrev pub binary_word : BinaryOperator → ℕ → ℕ → ℕ
binary_word op.Add x y = sum_word x y
binary_word op.Subtract x y = difference_word x y
binary_word op.Multiply x y = product_word x y
binary_word op.Divide x y = quotient_word x y
binary_word op.Remainder x y = remainder_word x y
binary_word op.Less x y = less_word x y
binary_word op.LessEqual x y = at_most_word x y
binary_word op.Greater x y = less_word y x
binary_word op.GreaterEqual x y = at_most_word y x
binary_word op.Equal x y = same_word x y
binary_word op.NotEqual x y = other_word x y
binary_word op.Pack x y = pair_word x y

-- a division by an int that is 0 throws
abbrev pub divided : BinaryOperator → ℕ → ℕ → List ℕ → Answers → Course (Outcome ℕ)
divided o x y locals rest = if nat_eq (y % 2 ^ 32) 0 then Ends (Throws Arithmetic) locals rest else
    Ends (Results (binary_word o x y)) locals rest

abbrev pub operate : BinaryOperator → ℕ → ℕ → List ℕ → Answers → Course (Outcome ℕ)
operate op.Divide x y locals rest = divided op.Divide x y locals rest
operate op.Remainder x y locals rest = divided op.Remainder x y locals rest
operate o x y locals rest = Ends (Results (binary_word o x y)) locals rest

-- 0 for 0, and 1 for anything else
abbrev pub flag_word : ℕ → ℕ
flag_word zero = 0
flag_word (suc n) = 1

-- An operation of the lock at an address, or of the monitor of the object there. `lock` and `unlock` give no word, and
-- `tryLock` gives 0 or 1.
abbrev pub operate_lock : LockOperation → ℕ → List ℕ → Answers → Course (Outcome ℕ)
operate_lock Lock x locals rest = perform (act.Lock x) locals rest
operate_lock Unlock x locals rest = perform (act.Unlock x) locals rest
operate_lock TryLock x locals rest = and_then (ask (act.TryLock x) locals rest)
    (λ w ls q. Ends (Results (flag_word w)) ls q)
operate_lock IsHeld x locals rest = ask (act.IsHeld x) locals rest
operate_lock LockMonitor x locals rest = perform (act.LockMonitor x) locals rest
operate_lock UnlockMonitor x locals rest = perform (act.UnlockMonitor x) locals rest

-- a length below 0 makes nothing
abbrev pub make_array : ℕ → List ℕ → Answers → Course (Outcome ℕ)
make_array n locals rest =
    if int_lt (int_of n) (pos 0) then Ends (Throws NegativeArraySize) locals rest else
    ask (act.NewArray (int_of n)) locals rest

abbrev mutual
  pub evaluate : Calls → Expression → List ℕ → Answers → Course (Outcome ℕ)
  evaluate calls (Word w) ls q = Ends (Results w) ls q
  evaluate calls (Local n) ls q = Ends (Results (slice_index ls n)) ls q
  evaluate calls (Unary o e) ls q = and_then (evaluate calls e ls q) (λ x ls q. Ends (Results (unary_word o x)) ls q)
  evaluate calls (Binary o a b) ls q = and_then (evaluate calls a ls q)
      (λ x ls q. and_then (evaluate calls b ls q) (λ y ls q. operate o x y ls q))
  evaluate calls (And a b) ls q = and_then (evaluate calls a ls q)
      (λ x ls q. if nat_eq x 0 then Ends (Results 0) ls q else evaluate calls b ls q)
  evaluate calls (Or a b) ls q = and_then (evaluate calls a ls q)
      (λ x ls q. if nat_eq x 0 then evaluate calls b ls q else Ends (Results 1) ls q)
  evaluate calls (Hold a n b) ls q =
      and_then (evaluate calls a ls q) (λ x ls q. and_then (evaluate calls b ls q)
      (λ y ls q. Ends (Results x) (slice_set ls n y) q))
  evaluate calls (Keep n a b) ls q = and_then (evaluate calls a ls q) (λ x ls q. evaluate calls b (slice_set ls n x) q)
  evaluate calls (After a b) ls q = and_then (evaluate calls a ls q) (λ x ls q. evaluate calls b ls q)
  evaluate calls (Field e f) ls q =
      and_then (evaluate calls e ls q) (λ x ls q. unless_null x ls q (ask (act.ReadField x (f + 1)) ls q))
  evaluate calls (Item a i) ls q =
      and_then (evaluate calls a ls q) (λ x ls q. and_then (evaluate calls i ls q) (λ n ls q.
      unless_null x ls q (ask (act.ReadItem x (int_of n)) ls q)))
  evaluate calls (SetFirst a e) ls q =
      and_then (evaluate calls a ls q) (λ x ls q. and_then (evaluate calls e ls q) (λ y ls q.
      unless_null x ls q (perform (act.WriteItem x (pos 0) y) ls q)))
  evaluate calls (ReadPair e) ls q = and_then (evaluate calls e ls q)
      (λ x ls q. unless_null x ls q (ask (act.ReadPair x) ls q))
  evaluate calls (SetPair e a) ls q =
      and_then (evaluate calls e ls q) (λ x ls q. and_then (evaluate calls a ls q) (λ y ls q.
      unless_null x ls q (perform (act.SetPair x y) ls q)))
  evaluate calls (SwapPair e a b) ls q =
      and_then (evaluate calls e ls q) (λ x ls q. and_then (evaluate calls a ls q)
      (λ y ls q. and_then (evaluate calls b ls q) (λ z ls q.
      unless_null x ls q (ask (act.SwapPair x y z) ls q))))
  evaluate calls (AttemptMark e a b) ls q =
      and_then (evaluate calls e ls q) (λ x ls q. and_then (evaluate calls a ls q)
      (λ y ls q. and_then (evaluate calls b ls q) (λ z ls q.
      unless_null x ls q (ask (act.AttemptMark x y (bool_of z)) ls q))))
  evaluate calls (OnLock o e) ls q = and_then (evaluate calls e ls q)
      (λ x ls q. unless_null x ls q (operate_lock o x ls q))
  evaluate calls (Call m e es) ls q =
      and_then (evaluate calls e ls q) (λ x ls q. and_then (evaluate_all calls es ls q) (λ ws ls q.
      unless_null x ls q (returned ls (calls m (x ∷ ws) q))))
  evaluate calls (MakeObject c m es) ls q =
      and_then (ask (act.New c) ls q) (λ x ls q. and_then (evaluate_all calls es ls q) (λ ws ls q.
      unless_null x ls q (and_then (returned ls (calls m (x ∷ ws) q)) (λ w ls q. Ends (Results x) ls q))))
  evaluate calls MakeLock ls q = ask act.NewLock ls q
  evaluate calls (MakeMarkable e) ls q = and_then (evaluate calls e ls q) (λ x ls q. ask (act.NewMarkable x) ls q)
  evaluate calls (MakeArray e) ls q = and_then (evaluate calls e ls q) make_array

  -- arguments, from the left
  pub evaluate_all : Calls → Expressions → List ℕ → Answers → Course (Outcome (List ℕ))
  evaluate_all calls End ls q = Ends (Results []) ls q
  evaluate_all calls (More e es) ls q =
      and_then (evaluate calls e ls q) (λ w ls q. and_then (evaluate_all calls es ls q)
      (λ ws ls q. Ends (Results (w ∷ ws)) ls q))
