-- Expressions on locals that agree below k end alike, and keep the locals above.
use Rattle.std.proofs.Common.{◌≡◌, ℕ, ◌<◌, ◌≤◌, ⊎_elim, Bool, true, false, List, [], ◌∷◌, length, refl, sym, ap, ◌∙◌}
use Rattle.std.proofs.Common.{subst, arith, nat_eq, if◌then◌else◌, pos, ◌+◌}
use Rattle.std.specs.Prelude.{slice_index, slice_set, int_lt, ◌%◌, ◌^◌}
use Rattle.std.proofs.lemmas.List.{length-set, get_or-set_same, get_or-set_other}
use Rattle.std.proofs.lemmas.Bool.{cases_lt}
use Rattle.ls_events.specs.declared.kind.Kind.TheVariants.{NullPointer, Arithmetic, NegativeArraySize}
use Rattle.ls_events.specs.declared.action.Action.{Action}
use Rattle.ls_events.specs.declared.action.Action.TheVariants as act
use Rattle.ls_events.specs.declared.action.Answer.TheVariants as answers
use Rattle.ls_lowered.specs.LoweredTree.{Expression, Word, Local, Unary, Binary, And, Or, Hold, Keep, After, Field}
use Rattle.ls_lowered.specs.LoweredTree.{Item, SetFirst, ReadPair, SetPair, SwapPair, AttemptMark, OnLock, Call}
use Rattle.ls_lowered.specs.LoweredTree.{MakeObject, MakeLock, MakeMarkable, MakeArray, Expressions, End, More}
use Rattle.ls_lowered.specs.declared.tree.BinaryOperator.{BinaryOperator}
use Rattle.ls_lowered.specs.declared.tree.BinaryOperator.TheVariants as op
use Rattle.ls_lowered.specs.declared.tree.LockOperation.{LockOperation}
use Rattle.ls_lowered.specs.declared.tree.LockOperation.TheVariants as lock
use Rattle.ls_lowered.specs.Words.{int_of, bool_of}
use Rattle.ls_lowered.specs.Course.{Answers, Course, Asks, Ends, Stuck, Outcome, Results, Throws, Calls, Told, Asked}
use Rattle.ls_lowered.specs.Course.{Gave, Raised, Lost, finish, on_result, and_then, ask, perform, unless_null}
use Rattle.ls_lowered.specs.Course.{returned}
use Rattle.ls_lowered.specs.Expressions.{evaluate, evaluate_all, unary_word, binary_word, flag_word, divided, operate}
use Rattle.ls_lowered.specs.Expressions.{operate_lock, make_array}
use Rattle.ls_lowered.specs.Statements.{Completion}
use Rattle.ls_finally.specs.Agreement.{Agree, IsBelow, AreBelow}

-- two steps after a course, grouped otherwise
pub finish_finish : {A B C : Type 0} (x : Course A) (f : A → List ℕ → Answers → Course B)
    (g : B → List ℕ → Answers → Course C) →
    finish (finish x f) g ≡ finish x (λ c ls q. finish (f c ls q) g)
finish_finish (Asks a) f g = refl
finish_finish (Ends c ls q) f g = refl
finish_finish Stuck f g = refl

-- the locals from k on are as they were
pub record Above (k : ℕ) (old new : List ℕ) : Type 0 where
  pub long : length new ≡ length old
  pub at : (i : ℕ) → k ≤ i → slice_index new i ≡ slice_index old i

-- locals are as they were, if nothing was set
pub above_refl : (k : ℕ) (ls : List ℕ) → Above k ls ls
above_refl k ls = record { long = refl; at = λ i l. refl }

-- setting a local below k leaves the locals from k on
pub above_set : (k i w : ℕ) (old new : List ℕ) → i < k → Above k old new → Above k old (slice_set new i w)
above_set k i w old new lt a = record {
  long = length-set new i w ∙ a.long;
  at = λ j l. get_or-set_other new i j w 0 (λ e. omega arith) ∙ a.at j l;
}

-- setting a local below k in both lists keeps them the same below k
pub agree_set : (k i w : ℕ) (ls new : List ℕ) → i < k → Agree k ls new → Agree k (slice_set ls i w) (slice_set new i w)
agree_set k i w ls new lt a = record {
  short = subst (λ n. k ≤ n) (sym (length-set ls i w)) a.short;
  long = subst (λ n. k ≤ n) (sym (length-set new i w)) a.long;
  at = λ j l. ⊎_elim
      (λ b. get_or-set_other new i j w 0 (λ e. omega arith) ∙ a.at j l ∙
      sym (get_or-set_other ls i j w 0 (λ e. omega arith)))
      (λ b. ⊎_elim
      (λ c. get_or-set_other new i j w 0 (λ e. omega arith) ∙ a.at j l ∙
      sym (get_or-set_other ls i j w 0 (λ e. omega arith)))
      (λ c. let e : i ≡ j = omega arith in subst (λ m. slice_index (slice_set new i w) m ≡ slice_index
      (slice_set ls i w) m) e (get_or-set_same new i w 0 (omega (arith, a.long)) ∙
      sym (get_or-set_same ls i w 0 (omega (arith, a.short)))))
      (cases_lt i j))
      (cases_lt j i);
}

-- setting a local from k on keeps the lists the same below k
pub agree_slot : (k r w : ℕ) (ls new : List ℕ) → k ≤ r → Agree k ls new → Agree k ls (slice_set new r w)
agree_slot k r w ls new le a = record {
  short = a.short;
  long = subst (λ n. k ≤ n) (sym (length-set new r w)) a.long;
  at = λ j l. get_or-set_other new r j w 0 (λ e. omega arith) ∙ a.at j l;
}

-- what follows goes on alike
pub record Follows {A : Type 0} (k : ℕ) (old : List ℕ) (g g' : A → List ℕ → Answers → Course Completion) : Type 0 where
  pub goes : (o : A) (ls new : List ℕ) (q : Answers) → Agree k ls new → Above k old new → g' o new q ≡ g o ls q

-- a course of locals goes on alike, on locals that agree below k
pub record Alike {A : Type 0} (k : ℕ) (f : List ℕ → Answers → Course A) : Type 0 where
  pub is : (old ls new : List ℕ) (q : Answers) (g g' : A → List ℕ → Answers → Course Completion) →
      Agree k ls new →
      Above k old new →
      Follows k old g g' →
      finish (f new q) g' ≡ finish (f ls q) g

-- one expression, and then another
pub then_alike : {A B : Type 0} (k : ℕ) (f : List ℕ → Answers → Course (Outcome A))
    (go : A → List ℕ → Answers → Course (Outcome B)) →
    Alike k f →
    ((x : A) → Alike k (go x)) →
    Alike k (λ ls q. and_then (f ls q) go)
then_alike {A = A} {B = B} k f go h t = record {
  is = λ old ls new q g g' a u s.
      finish_finish (f new q) (on_result go) g'
      ∙ h.is old ls new q (λ o ls q. finish (on_result go o ls q) g) (λ o ls q. finish (on_result go o ls q) g') a u
      (record { goes = goes old g g' s })
      ∙ sym (finish_finish (f ls q) (on_result go) g);
}
  where
    goes : (old : List ℕ) (g g' : Outcome B → List ℕ → Answers → Course Completion) →
        Follows k old g g' →
        (o : Outcome A) (ls new : List ℕ) (q : Answers) →
        Agree k ls new →
        Above k old new →
        finish (on_result go o new q) g' ≡ finish (on_result go o ls q) g
    goes old g g' s (Results x) ls new q a u = (t x).is old ls new q g g' a u s
    goes old g g' s (Throws kind) ls new q a u = s.goes (Throws kind) ls new q a u

pub ends_alike : {A : Type 0} (k : ℕ) (o : A) → Alike k (λ ls q. Ends o ls q)
ends_alike k o = record { is = λ old ls new q g g' a u s. s.goes o ls new q a u }

-- one action, and the word of its answer
pub ask_alike : (k : ℕ) (action : Action ℕ) → Alike k (λ ls q. ask action ls q)
ask_alike k action = record { is = go }
  where
    go : (old ls new : List ℕ) (q : Answers) (g g' : Outcome ℕ → List ℕ → Answers → Course Completion) →
        Agree k ls new →
        Above k old new →
        Follows k old g g' →
        finish (ask action new q) g' ≡ finish (ask action ls q) g
    go old ls new [] g g' a u s = refl
    go old ls new (answers.Done ∷ q) g g' a u s = s.goes (Results 0) ls new q a u
    go old ls new (answers.Gives w ∷ q) g g' a u s = s.goes (Results w) ls new q a u
    go old ls new (answers.Fails kind ∷ q) g g' a u s = s.goes (Throws kind) ls new q a u

-- one action that gives no word
pub perform_alike : (k : ℕ) (action : Action ℕ) → Alike k (λ ls q. perform action ls q)
perform_alike k action = then_alike k (λ ls q. ask action ls q) (λ w ls q. Ends (Results 0) ls q) (ask_alike k action)
    (λ w. ends_alike k (Results 0))

pub if_alike : {A : Type 0} (k : ℕ) (b : Bool) (f g : List ℕ → Answers → Course A) →
    Alike k f →
    Alike k g →
    Alike k (λ ls q. if b then f ls q else g ls q)
if_alike k true f g h t = record { is = h.is }
if_alike k false f g h t = record { is = t.is }

-- an expression, unless an address is null
pub null_alike : {A : Type 0} (k x : ℕ) (f : List ℕ → Answers → Course (Outcome A)) →
    Alike k f →
    Alike k (λ ls q. unless_null x ls q (f ls q))
null_alike {A = A} k x f h = if_alike {A = Outcome A} k (nat_eq x 0) (λ ls q. Ends (Throws NullPointer) ls q) f
    (ends_alike {A = Outcome A} k (Throws NullPointer)) h

pub set_alike : {A : Type 0} (k n w : ℕ) (f : List ℕ → Answers → Course A) →
    n < k →
    Alike k f →
    Alike k (λ ls q. f (slice_set ls n w) q)
set_alike k n w f lt h = record {
  is = λ old ls new q g g' a u s.
      h.is old (slice_set ls n w) (slice_set new n w) q g g' (agree_set k n w ls new lt a)
      (above_set k n w old new lt u)
      s;
}

pub returned_alike : (k : ℕ) (t : Answers → Told) → Alike k (λ ls q. returned ls (t q))
returned_alike k t = record { is = λ old ls new q g g' a u s. go old ls new (t q) g g' a u s }
  where
    go : (old ls new : List ℕ) (t : Told) (g g' : Outcome ℕ → List ℕ → Answers → Course Completion) →
        Agree k ls new →
        Above k old new →
        Follows k old g g' →
        finish (returned new t) g' ≡ finish (returned ls t) g
    go old ls new (Asked action) g g' a u s = refl
    go old ls new (Gave w q) g g' a u s = s.goes (Results w) ls new q a u
    go old ls new (Raised kind q) g g' a u s = s.goes (Throws kind) ls new q a u
    go old ls new Lost g g' a u s = refl

local_alike : (k n : ℕ) → n < k → Alike k (λ ls q. Ends (Results (slice_index ls n)) ls q)
local_alike k n lt = record {
  is = λ old ls new q g g' a u s. ap (λ w. g' (Results w) new q) (a.at n lt) ∙
      s.goes (Results (slice_index ls n)) ls new q a u;
}

divided_alike : (k : ℕ) (o : BinaryOperator) (x y : ℕ) → Alike k (λ ls q. divided o x y ls q)
divided_alike k o x y = if_alike k (nat_eq (y % 2 ^ 32) 0) (λ ls q. Ends (Throws Arithmetic) ls q)
    (λ ls q. Ends (Results (binary_word o x y)) ls q) (ends_alike k (Throws Arithmetic))
    (ends_alike k (Results (binary_word o x y)))

-- an operator on two words
pub operate_alike : (k : ℕ) (o : BinaryOperator) (x y : ℕ) → Alike k (λ ls q. operate o x y ls q)
operate_alike k op.Divide x y = record { is = (divided_alike k op.Divide x y).is }
operate_alike k op.Remainder x y = record { is = (divided_alike k op.Remainder x y).is }
operate_alike k op.Add x y = record { is = (ends_alike k (Results (binary_word op.Add x y))).is }
operate_alike k op.Subtract x y = record { is = (ends_alike k (Results (binary_word op.Subtract x y))).is }
operate_alike k op.Multiply x y = record { is = (ends_alike k (Results (binary_word op.Multiply x y))).is }
operate_alike k op.Less x y = record { is = (ends_alike k (Results (binary_word op.Less x y))).is }
operate_alike k op.LessEqual x y = record { is = (ends_alike k (Results (binary_word op.LessEqual x y))).is }
operate_alike k op.Greater x y = record { is = (ends_alike k (Results (binary_word op.Greater x y))).is }
operate_alike k op.GreaterEqual x y = record { is = (ends_alike k (Results (binary_word op.GreaterEqual x y))).is }
operate_alike k op.Equal x y = record { is = (ends_alike k (Results (binary_word op.Equal x y))).is }
operate_alike k op.NotEqual x y = record { is = (ends_alike k (Results (binary_word op.NotEqual x y))).is }
operate_alike k op.Pack x y = record { is = (ends_alike k (Results (binary_word op.Pack x y))).is }

lock_alike : (k : ℕ) (o : LockOperation) (x : ℕ) → Alike k (λ ls q. operate_lock o x ls q)
lock_alike k lock.Lock x = record { is = (perform_alike k (act.Lock x)).is }
lock_alike k lock.Unlock x = record { is = (perform_alike k (act.Unlock x)).is }
lock_alike k lock.TryLock x = record {
  is = (then_alike k (λ ls q. ask (act.TryLock x) ls q) (λ w ls q. Ends (Results (flag_word w)) ls q)
      (ask_alike k (act.TryLock x)) (λ w. ends_alike k (Results (flag_word w)))).is;
}
lock_alike k lock.IsHeld x = record { is = (ask_alike k (act.IsHeld x)).is }
lock_alike k lock.LockMonitor x = record { is = (perform_alike k (act.LockMonitor x)).is }
lock_alike k lock.UnlockMonitor x = record { is = (perform_alike k (act.UnlockMonitor x)).is }

array_alike : (k n : ℕ) → Alike k (λ ls q. make_array n ls q)
array_alike k n = if_alike k (int_lt (int_of n) (pos 0)) (λ ls q. Ends (Throws NegativeArraySize) ls q)
    (λ ls q. ask (act.NewArray (int_of n)) ls q) (ends_alike k (Throws NegativeArraySize))
    (ask_alike k (act.NewArray (int_of n)))

module _ (calls : Calls) (k : ℕ) where
  mutual
    -- each expression on locals below k goes on alike
    pub found_alike : (e : Expression) → IsBelow k e → Alike k (λ ls q. evaluate calls e ls q)
    found_alike (Word w) t = ends_alike k (Results w)
    found_alike (Local n) t = local_alike k n t
    found_alike (Unary o e) t = then_alike k (evaluate calls e) (λ x ls q. Ends (Results (unary_word o x)) ls q)
        (found_alike e t) (λ x. ends_alike k (Results (unary_word o x)))
    found_alike (Binary o a b) t = then_alike k (evaluate calls a) _ (found_alike a t.0)
        (λ x. then_alike k (evaluate calls b) _ (found_alike b t.1) (λ y. operate_alike k o x y))
    found_alike (And a b) t = then_alike k (evaluate calls a) _ (found_alike a t.0)
        (λ x. if_alike k (nat_eq x 0) (λ ls q. Ends (Results 0) ls q) (evaluate calls b) (ends_alike k (Results 0))
        (found_alike b t.1))
    found_alike (Or a b) t = then_alike k (evaluate calls a) _ (found_alike a t.0)
        (λ x. if_alike k (nat_eq x 0) (evaluate calls b) (λ ls q. Ends (Results 1) ls q) (found_alike b t.1)
        (ends_alike k (Results 1)))
    found_alike (Hold a n b) t = then_alike k (evaluate calls a) _ (found_alike a t.1)
        (λ x. then_alike k (evaluate calls b) _ (found_alike b t.2)
        (λ y. set_alike k n y (λ ls q. Ends (Results x) ls q) t.0 (ends_alike k (Results x))))
    found_alike (Keep n a b) t = then_alike k (evaluate calls a) _ (found_alike a t.1)
        (λ x. set_alike k n x (evaluate calls b) t.0 (found_alike b t.2))
    found_alike (After a b) t = then_alike k (evaluate calls a) _ (found_alike a t.0) (λ x. found_alike b t.1)
    found_alike (Field e f) t = then_alike k (evaluate calls e) _ (found_alike e t)
        (λ x. null_alike k x (λ ls q. ask (act.ReadField x (f + 1)) ls q) (ask_alike k (act.ReadField x (f + 1))))
    found_alike (Item a i) t = then_alike k (evaluate calls a) _ (found_alike a t.0)
        (λ x. then_alike k (evaluate calls i) _ (found_alike i t.1)
        (λ n. null_alike k x (λ ls q. ask (act.ReadItem x (int_of n)) ls q) (ask_alike k (act.ReadItem x (int_of n)))))
    found_alike (SetFirst a e) t = then_alike k (evaluate calls a) _ (found_alike a t.0)
        (λ x. then_alike k (evaluate calls e) _ (found_alike e t.1)
        (λ y. null_alike k x (λ ls q. perform (act.WriteItem x (pos 0) y) ls q)
        (perform_alike k (act.WriteItem x (pos 0) y))))
    found_alike (ReadPair e) t = then_alike k (evaluate calls e) _ (found_alike e t)
        (λ x. null_alike k x (λ ls q. ask (act.ReadPair x) ls q) (ask_alike k (act.ReadPair x)))
    found_alike (SetPair e a) t = then_alike k (evaluate calls e) _ (found_alike e t.0)
        (λ x. then_alike k (evaluate calls a) _ (found_alike a t.1)
        (λ y. null_alike k x (λ ls q. perform (act.SetPair x y) ls q) (perform_alike k (act.SetPair x y))))
    found_alike (SwapPair e a b) t = then_alike k (evaluate calls e) _ (found_alike e t.0)
        (λ x. then_alike k (evaluate calls a) _ (found_alike a t.1)
        (λ y. then_alike k (evaluate calls b) _ (found_alike b t.2)
        (λ z. null_alike k x (λ ls q. ask (act.SwapPair x y z) ls q) (ask_alike k (act.SwapPair x y z)))))
    found_alike (AttemptMark e a b) t = then_alike k (evaluate calls e) _ (found_alike e t.0)
        (λ x. then_alike k (evaluate calls a) _ (found_alike a t.1)
        (λ y. then_alike k (evaluate calls b) _ (found_alike b t.2)
        (λ z. null_alike k x (λ ls q. ask (act.AttemptMark x y (bool_of z)) ls q)
        (ask_alike k (act.AttemptMark x y (bool_of z))))))
    found_alike (OnLock o e) t = then_alike k (evaluate calls e) _ (found_alike e t)
        (λ x. null_alike k x (λ ls q. operate_lock o x ls q) (lock_alike k o x))
    found_alike (Call m e es) t = then_alike k (evaluate calls e) _ (found_alike e t.0)
        (λ x. then_alike k (evaluate_all calls es) _ (all_found_alike es t.1)
        (λ ws. null_alike k x (λ ls q. returned ls (calls m (x ∷ ws) q)) (returned_alike k (calls m (x ∷ ws)))))
    found_alike (MakeObject c m es) t = then_alike k (λ ls q. ask (act.New c) ls q) _ (ask_alike k (act.New c))
        (λ x. then_alike k (evaluate_all calls es) _ (all_found_alike es t)
        (λ ws. null_alike k x (λ ls q. and_then (returned ls (calls m (x ∷ ws) q)) (λ w ls q. Ends (Results x) ls q))
        (then_alike k (λ ls q. returned ls (calls m (x ∷ ws) q)) (λ w ls q. Ends (Results x) ls q)
        (returned_alike k (calls m (x ∷ ws))) (λ w. ends_alike k (Results x)))))
    found_alike MakeLock t = ask_alike k act.NewLock
    found_alike (MakeMarkable e) t = then_alike k (evaluate calls e) _ (found_alike e t)
        (λ x. ask_alike k (act.NewMarkable x))
    found_alike (MakeArray e) t = then_alike k (evaluate calls e) make_array (found_alike e t) (λ n. array_alike k n)

    pub all_found_alike : (es : Expressions) → AreBelow k es → Alike k (λ ls q. evaluate_all calls es ls q)
    all_found_alike End t = ends_alike k (Results [])
    all_found_alike (More e es) t = then_alike k (evaluate calls e) _ (found_alike e t.0)
        (λ w. then_alike k (evaluate_all calls es) _ (all_found_alike es t.1) (λ ws. ends_alike k (Results (w ∷ ws))))
