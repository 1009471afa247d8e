-- A statement that leaves a slot keeps what is in it, so that the unlock is of the object whose monitor was locked.
use Rattle.std.proofs.Common.{◌≡◌, ◌≢◌, ℕ, zero, suc, ◌<◌, Bool, true, false, List, [], ◌∷◌, length, Some, refl, ap}
use Rattle.std.proofs.Common.{◌∙◌, arith, slice_set, if◌then◌else◌}
use Rattle.std.specs.Prelude.{slice_index_or}
use Rattle.ls_events.specs.declared.value.Value.{Value}
use Rattle.ls_events.specs.declared.action.Action.TheVariants.{Turn, ReadField, WriteField, WriteItem, LockMonitor}
use Rattle.ls_events.specs.declared.action.Action.TheVariants.{UnlockMonitor}
use Rattle.ls_events.specs.declared.value.ValueType.TheVariants as types
use Rattle.ls_checked.specs.declared.tree.Operator.TheVariants.{Add}
use Rattle.ls_checked.specs.CheckedTree.{Class, Statement, Block, SetSlot, SetField, AddField, SetItem, Evaluate, If}
use Rattle.ls_checked.specs.CheckedTree.{While, Break, Continue, ReturnNothing, ReturnValue, Try, Statements, Done}
use Rattle.ls_checked.specs.CheckedTree.{Then}
use Rattle.ls_meaning.specs.declared.completion.Completion.TheVariants.{Normal, Broke, Continued, Returned, Threw}
use Rattle.ls_meaning.specs.declared.sort.Sort.TheVariants.{NoValue, ValueOf}
use Rattle.ls_meaning.specs.Values.{nothing, int_of, truth_of, reference_of}
use Rattle.ls_meaning.specs.Course.{Answers, Evaluated, Asks, Results, Throws, tell, with_value, on_object}
use Rattle.ls_meaning.specs.Expressions.{Calls, operate, evaluate}
use Rattle.ls_meaning.specs.Statements.{Executed, AsksFor, Completes, on_value, and_normal, then_do, finally_do}
use Rattle.ls_meaning.specs.Statements.{after_body, one_turn, turns, execute, execute_all}
use Rattle.ls_soundness.specs.Meaning.{Leaves, AllLeave, HoldsTheMonitor}

index_set : (ls : List Value) (n : ℕ) (v : Value) → n < length ls → slice_index_or (slice_set ls n v) n nothing ≡ v
index_set [] n v h = absurd (omega arith)
index_set (x ∷ ls) zero v h = refl
index_set (x ∷ ls) (suc n) v h = index_set ls n v (omega arith)

index_other : (ls : List Value) (n m : ℕ) (v : Value) →
    n ≢ m →
    slice_index_or (slice_set ls n v) m nothing ≡ slice_index_or ls m nothing
index_other [] n m v d = refl
index_other (x ∷ ls) zero zero v d = absurd (d refl)
index_other (x ∷ ls) zero (suc m) v d = refl
index_other (x ∷ ls) (suc n) zero v d = refl
index_other (x ∷ ls) (suc n) (suc m) v d = index_other ls n m v (λ e. d (ap suc e))

module _ (slot : ℕ) (v : Value) where
  abbrev In : List Value → Type 0
  In ls = slice_index_or ls slot nothing ≡ v

  abbrev Keeps : Executed → Type 0
  Keeps (AsksFor action sort) = Unit {0}
  Keeps (Completes c ls rest) = In ls

  abbrev GoesOn : (List Value → Answers → Executed) → Type 0
  GoesOn go = (ls : List Value) (rest : Answers) → In ls → Keeps (go ls rest)

  on_value_keeps : (e : Evaluated Value) (ls : List Value) (go : Value → Answers → Executed) →
      In ls →
      ((w : Value) (rest : Answers) → Keeps (go w rest)) →
      Keeps (on_value e ls go)
  on_value_keeps (Asks a s) ls go h k = tt
  on_value_keeps (Results w rest) ls go h k = k w rest
  on_value_keeps (Throws kind rest) ls go h k = h

  normal_keeps : (e : Evaluated Value) (ls : List Value) → In ls → Keeps (and_normal e ls)
  normal_keeps e ls h = on_value_keeps e ls (λ _ rest. Completes Normal ls rest) h (λ w rest. h)

  then_keeps : (x : Executed) (go : List Value → Answers → Executed) → Keeps x → GoesOn go → Keeps (then_do x go)
  then_keeps (AsksFor a s) go h k = tt
  then_keeps (Completes Normal ls rest) go h k = k ls rest h
  then_keeps (Completes (Broke n) ls rest) go h k = h
  then_keeps (Completes (Continued n) ls rest) go h k = h
  then_keeps (Completes (Returned w) ls rest) go h k = h
  then_keeps (Completes (Threw kind) ls rest) go h k = h

  finally_keeps : (x : Executed) (go : List Value → Answers → Executed) → Keeps x → GoesOn go → Keeps (finally_do x go)
  finally_keeps (AsksFor a s) go h k = tt
  finally_keeps (Completes c ls rest) go h k = then_keeps (go ls rest) (λ ls rest. Completes c ls rest) (k ls rest h)
      (λ ls rest h. h)

  after_keeps : (x : Executed) (again : List Value → Answers → Executed) →
      Keeps x →
      GoesOn again →
      Keeps (after_body x again)
  after_keeps (AsksFor a s) again h k = tt
  after_keeps (Completes Normal ls rest) again h k = on_value_keeps (tell Turn rest) ls (λ _ rest. again ls rest) h
      (λ w rest. k ls rest h)
  after_keeps (Completes (Continued zero) ls rest) again h k = on_value_keeps (tell Turn rest) ls
      (λ _ rest. again ls rest) h (λ w rest. k ls rest h)
  after_keeps (Completes (Continued (suc n)) ls rest) again h k = h
  after_keeps (Completes (Broke zero) ls rest) again h k = h
  after_keeps (Completes (Broke (suc n)) ls rest) again h k = h
  after_keeps (Completes (Returned w) ls rest) again h k = h
  after_keeps (Completes (Threw kind) ls rest) again h k = h

  if_keeps : (b : Bool) (x y : Executed) → Keeps x → Keeps y → Keeps (if b then x else y)
  if_keeps true x y h k = h
  if_keeps false x y h k = k

  one_keeps : (condition : List Value → Answers → Evaluated Value) (body again : List Value → Answers → Executed) →
      GoesOn body →
      GoesOn again →
      GoesOn (one_turn condition body again)
  one_keeps condition body again f k ls rest h =
      on_value_keeps (condition ls rest) ls (λ w rest. if truth_of w then after_body (body ls rest) again else
      Completes Normal ls rest) h
      (λ w rest. if_keeps (truth_of w) (after_body (body ls rest) again) (Completes Normal ls rest)
      (after_keeps (body ls rest) again (f ls rest h) k) h)

  turns_keep : (n : ℕ) (condition : List Value → Answers → Evaluated Value) (body : List Value → Answers → Executed) →
      GoesOn body →
      GoesOn (turns n condition body)
  turns_keep zero condition body f = one_keeps condition body (λ ls rest. AsksFor Turn NoValue) f (λ ls rest h. tt)
  turns_keep (suc n) condition body f = one_keeps condition body (turns n condition body) f
      (turns_keep n condition body f)

  module _ (classes : List Class) (calls : Calls) where
    mutual
      keeps : (s : Statement) → Leaves slot s → GoesOn (execute classes calls s)
      keeps (Block ss) l ls rest h = all_keep ss l ls rest h
      keeps (SetSlot n e) l ls rest h = on_value_keeps (evaluate classes calls e ls rest) ls
          (λ w rest. Completes Normal (slice_set ls n w) rest) h (λ w rest. index_other ls n slot w l ∙ h)
      keeps (SetField e f a) l ls rest h =
          normal_keeps (with_value (evaluate classes calls e ls rest)
          (λ o rest. with_value (evaluate classes calls a ls rest)
          (λ w rest. on_object o (WriteField (reference_of o) f w) NoValue rest))) ls h
      keeps (AddField e f a) l ls rest h =
          normal_keeps (with_value (evaluate classes calls e ls rest)
          (λ o rest. with_value (on_object o (ReadField (reference_of o) f) (ValueOf types.Int) rest) (λ x rest.
          with_value (evaluate classes calls a ls rest) (λ y rest.
          with_value (operate Add x y rest) (λ w rest. on_object o (WriteField (reference_of o) f w) NoValue
          rest))))) ls h
      keeps (SetItem a i e) l ls rest h =
          normal_keeps (with_value (evaluate classes calls a ls rest)
          (λ o rest. with_value (evaluate classes calls i ls rest)
          (λ n rest. with_value (evaluate classes calls e ls rest) (λ w rest.
          on_object o (WriteItem (reference_of o) (int_of n) w) NoValue rest)))) ls h
      keeps (Evaluate e) l ls rest h = normal_keeps (evaluate classes calls e ls rest) ls h
      keeps (If e a b) l ls rest h =
          on_value_keeps (evaluate classes calls e ls rest) ls
          (λ w rest. if truth_of w then execute classes calls a ls rest else execute classes calls b ls rest) h
          (λ w rest. if_keeps (truth_of w) (execute classes calls a ls rest) (execute classes calls b ls rest)
          (keeps a l.0 ls rest h) (keeps b l.1 ls rest h))
      keeps (While e s) l ls rest h = turns_keep (length rest) (evaluate classes calls e) (execute classes calls s)
          (keeps s l) ls rest h
      keeps (Break n) l ls rest h = h
      keeps (Continue n) l ls rest h = h
      keeps ReturnNothing l ls rest h = h
      keeps (ReturnValue e) l ls rest h = on_value_keeps (evaluate classes calls e ls rest) ls
          (λ w rest. Completes (Returned (Some w)) ls rest) h (λ w rest. h)
      keeps (Try b f) l ls rest h = finally_keeps (execute classes calls b ls rest) (execute classes calls f)
          (keeps b l.0 ls rest h) (keeps f l.1)

      all_keep : (ss : Statements) → AllLeave slot ss → GoesOn (execute_all classes calls ss)
      all_keep Done l ls rest h = h
      all_keep (Then s ss) l ls rest h = then_keeps (execute classes calls s ls rest) (execute_all classes calls ss)
          (keeps s l.0 ls rest h) (all_keep ss l.1)

  -- a block and what comes after it, if that depends on the slot
  finally_same : (x : Executed) (go go' : List Value → Answers → Executed) →
      Keeps x →
      ((ls : List Value) (rest : Answers) → In ls → go ls rest ≡ go' ls rest) →
      finally_do x go ≡ finally_do x go'
  finally_same (AsksFor a s) go go' h e = refl
  finally_same (Completes c ls rest) go go' h e = ap (λ y. then_do y (λ ls rest. Completes c ls rest)) (e ls rest h)

value_same : (e : Evaluated Value) (ls : List Value) (go go' : Value → Answers → Executed) →
    ((w : Value) (rest : Answers) → go w rest ≡ go' w rest) →
    on_value e ls go ≡ on_value e ls go'
value_same (Asks a s) ls go go' f = refl
value_same (Results w rest) ls go go' f = f w rest
value_same (Throws kind rest) ls go go' f = refl

then_value : (e : Evaluated Value) (ls : List Value) (go : Value → Answers → Executed)
    (k : List Value → Answers → Executed) →
    then_do (on_value e ls go) k ≡ on_value e ls (λ w rest. then_do (go w rest) k)
then_value (Asks a s) ls go k = refl
then_value (Results w rest) ls go k = refl
then_value (Throws kind rest) ls go k = refl

then_done : (x : Executed) → then_do x (λ ls rest. Completes Normal ls rest) ≡ x
then_done (AsksFor a s) = refl
then_done (Completes Normal ls rest) = refl
then_done (Completes (Broke n) ls rest) = refl
then_done (Completes (Continued n) ls rest) = refl
then_done (Completes (Returned w) ls rest) = refl
then_done (Completes (Threw kind) ls rest) = refl

-- the law: if the block leaves the slot alone, the course is the standard's
pub holds_the_monitor : HoldsTheMonitor
holds_the_monitor classes calls slot class target body locals answers inside leaves =
    then_value (evaluate classes calls target locals answers) locals
    (λ o rest. Completes Normal (slice_set locals slot o) rest) _
    ∙ value_same (evaluate classes calls target locals answers) locals _ _ (λ o rest.
    let ls : List Value = slice_set locals slot o in
    let is : slice_index_or ls slot nothing ≡ o = index_set locals slot o inside in
    let locked = λ (z : Value) (rest : Answers). on_object z (LockMonitor (reference_of z)) NoValue rest in
    let unlocks = λ (z : Value) (ls : List Value) (rest : Answers).
    and_normal (on_object z (UnlockMonitor (reference_of z)) NoValue rest) ls in
    then_value (locked (slice_index_or ls slot nothing) rest) ls (λ _ rest. Completes Normal ls rest) _
    ∙ ap (λ z. on_value (locked z rest) ls (λ _ rest. then_do
    (finally_do (execute classes calls body ls rest) (λ ls rest. unlocks (slice_index_or ls slot nothing) ls rest))
    (λ ls rest. Completes Normal ls rest))) is
    ∙ value_same (locked o rest) ls _ _ (λ w rest.
    then_done (finally_do (execute classes calls body ls rest)
    (λ ls rest. unlocks (slice_index_or ls slot nothing) ls rest))
    ∙ finally_same slot o (execute classes calls body ls rest)
    (λ ls rest. unlocks (slice_index_or ls slot nothing) ls rest) (unlocks o)
    (keeps slot o classes calls body leaves ls rest is)
    (λ ls rest h. ap (λ z. unlocks z ls rest) h)))
