-- What is closed under the ways that statements complete holds of each end of an execution.
use Rattle.std.proofs.Common.{◌≡◌, ℕ, zero, suc, refl, ap, sym, subst, Bool, true, false, List, length}
use Rattle.std.specs.Prelude.{if◌then◌else◌}
use Rattle.ls_events.specs.declared.kind.Kind.{Kind}
use Rattle.ls_events.specs.declared.value.Value.{Value}
use Rattle.ls_events.specs.declared.value.Value.TheVariants as values
use Rattle.ls_events.specs.declared.action.Action.TheVariants.{ReadField, WriteField, WriteItem, Turn}
use Rattle.ls_events.specs.declared.value.ValueType.TheVariants as types
use Rattle.ls_checked.specs.declared.tree.Operator.TheVariants.{Add}
use Rattle.ls_checked.specs.CheckedTree.{Class, Expression, Literal, Statement, Block, SetSlot, SetField, AddField}
use Rattle.ls_checked.specs.CheckedTree.{SetItem, Evaluate, If, While, Break, Continue, ReturnNothing, ReturnValue, Try}
use Rattle.ls_checked.specs.CheckedTree.{Statements, Done, Then}
use Rattle.ls_meaning.specs.declared.sort.Sort.TheVariants.{NoValue, ValueOf}
use Rattle.ls_meaning.specs.declared.completion.Completion.{Completion}
use Rattle.ls_meaning.specs.declared.completion.Completion.TheVariants.{Normal, Broke, Continued, Returned, Threw}
use Rattle.ls_meaning.specs.Values.{int_of, truth_of, reference_of}
use Rattle.ls_meaning.specs.Course.{Answers, Evaluated, Asks, Results, Throws, tell, with_value, on_object}
use Rattle.ls_meaning.specs.Expressions.{Calls, operate, evaluate}
use Rattle.ls_meaning.specs.Statements.{Executed, AsksFor, Completes, on_value, and_normal, then_do, finally_do}
use Rattle.ls_meaning.specs.Statements.{turn_back, after_body, one_turn, turns, execute, execute_all}
use Rattle.ls_types_judgement.specs.Completion.{is_true}
use Rattle.ls_types_judgement.specs.Ways.{Abrupt, AfterBody, Closed}
use Rattle.ls_types_judgement.specs.Ends.{Ends, AlwaysEnds}

-- an end with a property has each weaker property
pub weaker : (P Q : Completion Value → Type 0) (x : Executed) →
    Ends P x →
    ((c : Completion Value) → P c → Q c) →
    Ends Q x
weaker P Q (AsksFor a s) h k = tt
weaker P Q (Completes c ls rest) h k = k c h

value_ends : (P : Completion Value → Type 0) (e : Evaluated Value) (ls : List Value) (go : Value → Answers → Executed) →
    ((kind : Kind) → P (Threw kind)) →
    ((v : Value) (rest : Answers) → Ends P (go v rest)) →
    Ends P (on_value e ls go)
value_ends P (Asks a s) ls go t h = tt
value_ends P (Results v rest) ls go t h = h v rest
value_ends P (Throws kind rest) ls go t h = t kind

normal_ends : (P : Completion Value → Type 0) (e : Evaluated Value) (ls : List Value) →
    ((kind : Kind) → P (Threw kind)) →
    P Normal →
    Ends P (and_normal e ls)
normal_ends P e ls t h = value_ends P e ls (λ _ rest. Completes Normal ls rest) t (λ v rest. h)

then_ends : (P Q : Completion Value → Type 0) (x : Executed) (go : List Value → Answers → Executed) →
    Ends P x →
    ((c : Completion Value) → Abrupt c → P c → Q c) →
    (P Normal → (ls : List Value) (rest : Answers) → Ends Q (go ls rest)) →
    Ends Q (then_do x go)
then_ends P Q (AsksFor a s) go h stop on = tt
then_ends P Q (Completes Normal ls rest) go h stop on = on h ls rest
then_ends P Q (Completes (Broke n) ls rest) go h stop on = stop (Broke n) tt h
then_ends P Q (Completes (Continued n) ls rest) go h stop on = stop (Continued n) tt h
then_ends P Q (Completes (Returned v) ls rest) go h stop on = stop (Returned v) tt h
then_ends P Q (Completes (Threw kind) ls rest) go h stop on = stop (Threw kind) tt h

finally_ends : (P F Q : Completion Value → Type 0) (x : Executed) (go : List Value → Answers → Executed) →
    Ends P x →
    ((ls : List Value) (rest : Answers) → Ends F (go ls rest)) →
    ((c : Completion Value) → Abrupt c → F c → Q c) →
    ((c : Completion Value) → P c → F Normal → Q c) →
    Ends Q (finally_do x go)
finally_ends P F Q (AsksFor a s) go h k stop on = tt
finally_ends P F Q (Completes c ls rest) go h k stop on = then_ends F Q (go ls rest) (λ ls rest. Completes c ls rest)
    (k ls rest) stop (λ n ls rest. on c h n)

either : (P : Completion Value → Type 0) (b : Bool) (x y : Executed) → Ends P x → Ends P y → Ends P (if b then x else y)
either P true x y h k = h
either P false x y h k = k

back_ends : (P : Completion Value → Type 0) (again : List Value → Answers → Executed) (ls : List Value) (rest : Answers)
    →
    ((kind : Kind) → P (Threw kind)) →
    ((ls : List Value) (rest : Answers) → Ends P (again ls rest)) →
    Ends P (turn_back again ls rest)
back_ends P again ls rest t h = value_ends P (tell Turn rest) ls (λ _ rest. again ls rest) t (λ v rest. h ls rest)

after_ends : (P Q : Completion Value → Type 0) (x : Executed) (again : List Value → Answers → Executed) →
    Ends P x →
    ((c : Completion Value) → P c → AfterBody Q c) →
    ((kind : Kind) → Q (Threw kind)) →
    ((ls : List Value) (rest : Answers) → Ends Q (again ls rest)) →
    Ends Q (after_body x again)
after_ends P Q (AsksFor a s) again h k t l = tt
after_ends P Q (Completes Normal ls rest) again h k t l = back_ends Q again ls rest t l
after_ends P Q (Completes (Continued zero) ls rest) again h k t l = back_ends Q again ls rest t l
after_ends P Q (Completes (Continued (suc n)) ls rest) again h k t l = k (Continued (suc n)) h
after_ends P Q (Completes (Broke zero) ls rest) again h k t l = k (Broke zero) h
after_ends P Q (Completes (Broke (suc n)) ls rest) again h k t l = k (Broke (suc n)) h
after_ends P Q (Completes (Returned v) ls rest) again h k t l = k (Returned v) h
after_ends P Q (Completes (Threw kind) ls rest) again h k t l = k (Threw kind) h

true_is_true : (e : Expression) →
    is_true e ≡ true →
    (classes : List Class) (calls : Calls) (ls : List Value) (answers : Answers) →
    evaluate classes calls e ls answers ≡ Results (values.Boolean true) answers
true_is_true (Literal (values.Boolean b)) h classes calls ls answers = ap
    (λ (b : Bool). Results (values.Boolean b) answers) h
true_is_true _ h classes calls ls answers = cc h

module _ (P : Statement → Completion Value → Type 0) (Q : Statements → Completion Value → Type 0) (closed : Closed P Q)
    (classes : List Class) (calls : Calls) where
  go_ends : (e : Expression) (s : Statement) (again : List Value → Answers → Executed) →
      ((ls : List Value) (rest : Answers) → Ends (P s) (execute classes calls s ls rest)) →
      ((ls : List Value) (rest : Answers) → Ends (P (While e s)) (again ls rest)) → (ls : List Value) (rest : Answers) →
      Ends (P (While e s)) (after_body (execute classes calls s ls rest) again)
  go_ends e s again h l ls rest = after_ends (P s) (P (While e s)) (execute classes calls s ls rest) again (h ls rest)
      (closed.body e s) (closed.throws (While e s)) l

  turn_by : (e : Expression) (s : Statement) (again : List Value → Answers → Executed) (b : Bool) →
      is_true e ≡ b →
      ((ls : List Value) (rest : Answers) → Ends (P s) (execute classes calls s ls rest)) →
      ((ls : List Value) (rest : Answers) → Ends (P (While e s)) (again ls rest)) →
      (ls : List Value) (answers : Answers) → Ends (P (While e s))
      (one_turn (evaluate classes calls e) (execute classes calls s) again ls answers)
  turn_by e s again true i h l ls answers =
      subst (λ (x : Evaluated Value). Ends (P (While e s)) (on_value x ls
      (λ v rest. if truth_of v then after_body (execute classes calls s ls rest) again else
      Completes Normal ls rest)))
      (sym (true_is_true e i classes calls ls answers)) (go_ends e s again h l ls answers)
  turn_by e s again false i h l ls answers =
      value_ends (P (While e s)) (evaluate classes calls e ls answers) ls _ (closed.throws (While e s)) (λ v rest.
      either (P (While e s)) (truth_of v) (after_body (execute classes calls s ls rest) again)
      (Completes Normal ls rest) (go_ends e s again h l ls rest) (closed.leaves e s i))

  turns_end : (e : Expression) (s : Statement) →
      ((ls : List Value) (rest : Answers) → Ends (P s) (execute classes calls s ls rest)) →
      (k : ℕ) (ls : List Value) (answers : Answers) →
      Ends (P (While e s)) (turns k (evaluate classes calls e) (execute classes calls s) ls answers)
  turns_end e s h zero ls answers = turn_by e s (λ ls rest. AsksFor Turn NoValue) (is_true e) refl h (λ ls rest. tt) ls
      answers
  turns_end e s h (suc k) ls answers = turn_by e s (turns k (evaluate classes calls e) (execute classes calls s))
      (is_true e) refl h (turns_end e s h k) ls answers

  mutual
    pub all_ends : (ss : Statements) (ls : List Value) (answers : Answers) →
        Ends (Q ss) (execute_all classes calls ss ls answers)
    all_ends Done ls answers = closed.done
    all_ends (Then s ss) ls answers =
        then_ends (P s) (Q (Then s ss)) (execute classes calls s ls answers) (execute_all classes calls ss)
        (statement_ends s ls answers) (closed.stops s ss) (λ n ls rest.
        weaker (Q ss) (Q (Then s ss)) (execute_all classes calls ss ls rest) (all_ends ss ls rest)
        (λ c h. closed.goes_on s ss c n h))

    pub statement_ends : (s : Statement) (ls : List Value) (answers : Answers) →
        Ends (P s) (execute classes calls s ls answers)
    statement_ends (Block ss) ls answers = weaker (Q ss) (P (Block ss)) (execute_all classes calls ss ls answers)
        (all_ends ss ls answers) (closed.block ss)
    statement_ends (SetSlot n e) ls answers = value_ends (P (SetSlot n e)) (evaluate classes calls e ls answers) ls _
        (closed.throws (SetSlot n e)) (λ v rest. closed.sets_slot n e)
    statement_ends (SetField e n v) ls answers = normal_ends (P (SetField e n v))
        (with_value (evaluate classes calls e ls answers) (λ o rest.
        with_value (evaluate classes calls v ls rest) (λ w rest.
        on_object o (WriteField (reference_of o) n w) NoValue rest)))
        ls (closed.throws (SetField e n v)) (closed.sets_field e n v)
    statement_ends (AddField e n v) ls answers = normal_ends (P (AddField e n v))
        (with_value (evaluate classes calls e ls answers) (λ o rest.
        with_value (on_object o (ReadField (reference_of o) n) (ValueOf types.Int) rest) (λ x rest.
        with_value (evaluate classes calls v ls rest) (λ y rest.
        with_value (operate Add x y rest) (λ w rest. on_object o (WriteField (reference_of o) n w) NoValue rest)))))
        ls (closed.throws (AddField e n v)) (closed.adds_field e n v)
    statement_ends (SetItem a i v) ls answers = normal_ends (P (SetItem a i v))
        (with_value (evaluate classes calls a ls answers) (λ o rest.
        with_value (evaluate classes calls i ls rest) (λ m rest.
        with_value (evaluate classes calls v ls rest) (λ w rest.
        on_object o (WriteItem (reference_of o) (int_of m) w) NoValue rest))))
        ls (closed.throws (SetItem a i v)) (closed.sets_item a i v)
    statement_ends (Evaluate e) ls answers = normal_ends (P (Evaluate e)) (evaluate classes calls e ls answers) ls
        (closed.throws (Evaluate e)) (closed.evaluates e)
    statement_ends (If e a b) ls answers =
        value_ends (P (If e a b)) (evaluate classes calls e ls answers) ls _ (closed.throws (If e a b)) (λ v rest.
        either (P (If e a b)) (truth_of v) (execute classes calls a ls rest) (execute classes calls b ls rest)
        (weaker (P a) (P (If e a b)) (execute classes calls a ls rest) (statement_ends a ls rest) (closed.first e a b))
        (weaker (P b) (P (If e a b)) (execute classes calls b ls rest) (statement_ends b ls rest)
        (closed.second e a b)))
    statement_ends (While e s) ls answers = turns_end e s (λ ls rest. statement_ends s ls rest) (length answers) ls
        answers
    statement_ends (Break n) ls answers = closed.break n
    statement_ends (Continue n) ls answers = closed.continue n
    statement_ends ReturnNothing ls answers = closed.returns
    statement_ends (ReturnValue e) ls answers = value_ends (P (ReturnValue e)) (evaluate classes calls e ls answers) ls
        _ (closed.throws (ReturnValue e)) (λ v rest. closed.returns_value e v)
    statement_ends (Try b f) ls answers =
        finally_ends (P b) (P f) (P (Try b f)) (execute classes calls b ls answers) (execute classes calls f)
        (statement_ends b ls answers) (λ ls rest. statement_ends f ls rest) (closed.finishes b f) (closed.tries b f)

-- if properties are closed under the ways to complete, each statement ends with its property
pub always : (P : Statement → Completion Value → Type 0) (Q : Statements → Completion Value → Type 0) →
    Closed P Q →
    (s : Statement) →
    AlwaysEnds (P s) s
always P Q closed s classes calls ls answers = statement_ends P Q closed classes calls s ls answers
