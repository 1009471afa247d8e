-- The bodies of an elaborated file end as their methods do.
use Rattle.std.proofs.Common.{◌≡◌, ℕ, zero, suc, ◌<◌, refl, arith, true, false, List, Option, None, Some, Ok, is_some}
use Rattle.ls_events.specs.declared.value.Value.{Value}
use Rattle.ls_events.specs.declared.value.ValueType.{ValueType}
use Rattle.ls_checked.specs.CheckedTree.{Expression, Statement, While, Statements, File as Checked}
use Rattle.ls_meaning.specs.declared.completion.Completion.{Completion}
use Rattle.ls_meaning.specs.declared.completion.Completion.TheVariants.{Normal, Broke, Continued, Returned, Threw}
use Rattle.ls_meaning.specs.Statements.{Executed, AsksFor, Completes, execute}
use Rattle.ls_meaning.specs.Methods.{leave}
use Rattle.ls_types_judgement.specs.Typing.{IsTypedStatement, AreTypedStatements}
use Rattle.ls_types_elaboration.specs.Trees.{File}
use Rattle.ls_types_judgement.specs.Completion.{can_complete}
use Rattle.ls_types_elaboration.specs.Elaboration.{ElaboratedFile, elaborated}
use Rattle.ls_types_laws.proofs.Ends.{elaborated_loops, elaborated_ends}
use Rattle.ls_types_laws.proofs.Whole.{typed_when}
use Rattle.ls_types_judgement.specs.Ends.{Ends, Allows, IsIn}
use Rattle.ls_types_laws.specs.Bodies.{FitsMethod, BodiesFit, leave_or, NoneLeft}
use Rattle.ls_types_judgement.specs.Ways.{AfterBody, Closed}
use Rattle.ls_types_judgement.proofs.Closed.{always, weaker}
use Rattle.ls_types_judgement.proofs.Allowed.{only_as_allowed}
use Rattle.ls_types_judgement.proofs.Inside.{only_to_its_loops}

-- a return of a method that answers this
abbrev ReturnsAs : Option ValueType → Completion Value → Type 0
ReturnsAs r Normal = Unit {0}
ReturnsAs r (Broke n) = Unit {0}
ReturnsAs r (Continued n) = Unit {0}
ReturnsAs r (Returned None) = r ≡ None
ReturnsAs r (Returned (Some v)) = (t : ValueType) × (r ≡ Some t)
ReturnsAs r (Threw kind) = Unit {0}

abbrev Returns : Statement → Completion Value → Type 0
Returns s c = (file : Checked) (slots : List ValueType) (r : Option ValueType) → IsTypedStatement file slots r s →
    ReturnsAs r c

abbrev AllReturn : Statements → Completion Value → Type 0
AllReturn ss c = (file : Checked) (slots : List ValueType) (r : Option ValueType) → AreTypedStatements file slots r ss →
    ReturnsAs r c

of_loop : (e : Expression) (s : Statement) (c : Completion Value) → Returns s c → AfterBody (Returns (While e s)) c
of_loop e s Normal h = tt
of_loop e s (Broke zero) h = λ file slots r t. tt
of_loop e s (Broke (suc m)) h = λ file slots r t. tt
of_loop e s (Continued zero) h = tt
of_loop e s (Continued (suc m)) h = λ file slots r t. tt
of_loop e s (Returned v) h = λ file slots r t. h file slots r t.1
of_loop e s (Threw kind) h = λ file slots r t. tt

returning : Closed Returns AllReturn
returning = record {
  throws = λ s kind file slots r t. tt;
  block = λ ss c h. h;
  sets_slot = λ m e file slots r t. tt;
  sets_field = λ e m v file slots r t. tt;
  adds_field = λ e m v file slots r t. tt;
  sets_item = λ a i v file slots r t. tt;
  evaluates = λ e file slots r t. tt;
  first = λ e a b c h file slots r t. h file slots r t.1;
  second = λ e a b c h file slots r t. h file slots r t.2;
  leaves = λ e s h file slots r t. tt;
  body = of_loop;
  break = λ m file slots r t. tt;
  continue = λ m file slots r t. tt;
  returns = λ file slots r t. t;
  returns_value = λ e v file slots r t. (t.0, t.1);
  tries = λ b f c h k file slots r t. h file slots r t.0;
  finishes = λ b f c a h file slots r t. h file slots r t.1;
  done = λ file slots r t. tt;
  stops = λ s ss c a h file slots r t. h file slots r t.0;
  goes_on = λ s ss c h k file slots r t. k file slots r t.1;
}

both_end : (P Q : Completion Value → Type 0) (x : Executed) → Ends P x → Ends Q x → Ends (λ c. P c × Q c) x
both_end P Q (AsksFor a s) h k = tt
both_end P Q (Completes c ls rest) h k = (h, k)

no_value : (r : Option ValueType) (s : Statement) →
    (is_some r ≡ true → can_complete s ≡ false) →
    can_complete s ≡ true →
    r ≡ None
no_value None s h k = refl
no_value (Some t) s h k = let shut : can_complete s ≡ false = h refl in cc (shut, k)

none_low : (n : ℕ) → n < 0 → ⊥
none_low n h = omega (arith, h)

fits : (r : Option ValueType) (s : Statement) →
    (is_some r ≡ true → can_complete s ≡ false) →
    (c : Completion Value) →
    Allows s c →
    IsIn 0 c →
    ReturnsAs r c →
    FitsMethod r c
fits r s h Normal a i t = no_value r s h a
fits r s h (Broke n) a i t = none_low n i
fits r s h (Continued n) a i t = none_low n i
fits r s h (Returned None) a i t = t
fits r s h (Returned (Some v)) a i t = t
fits r s h (Threw kind) a i t = tt

-- the law: the bodies of an elaborated file fit their results
pub bodies_fit : (f : File) (o : ElaboratedFile) → elaborated f ≡ Ok o → BodiesFit o.file
bodies_fit f o e n m at classes calls ls answers =
    let x : Executed = execute classes calls m.body ls answers in
    weaker (λ c. Allows m.body c × (IsIn 0 c × Returns m.body c)) (FitsMethod m.result) x
    (both_end (Allows m.body) (λ c. IsIn 0 c × Returns m.body c) x (only_as_allowed m.body classes calls ls answers)
    (both_end (IsIn 0) (Returns m.body) x (only_to_its_loops 0 m.body (elaborated_loops f o e n m at) classes calls ls
    answers)
    (always Returns AllReturn returning m.body classes calls ls answers)))
    (λ c h. fits m.result m.body (elaborated_ends f o e n m at) c h.0 h.1.0
    (h.1.1 o.file m.slots m.result ((typed_when f o e).typed n m at).body))

not_none : (r : Option ValueType) (t : ValueType) → r ≡ Some t → r ≡ None → ⊥
not_none r t h k = cc (h, k)

left_so : (r : Option ValueType) (t : ValueType) →
    r ≡ Some t →
    (other : Value) (x : Executed) →
    Ends (FitsMethod r) x →
    leave r x ≡ leave_or other x
left_so r t h other (AsksFor a s) f = refl
left_so r t h other (Completes Normal ls rest) f = absurd (not_none r t h f)
left_so r t h other (Completes (Broke n) ls rest) f = absurd f
left_so r t h other (Completes (Continued n) ls rest) f = absurd f
left_so r t h other (Completes (Returned None) ls rest) f = absurd (not_none r t h f)
left_so r t h other (Completes (Returned (Some v)) ls rest) f = refl
left_so r t h other (Completes (Threw kind) ls rest) f = refl

-- the law: the value for bodies that leave none is never used
pub none_left : (f : File) (o : ElaboratedFile) → elaborated f ≡ Ok o → NoneLeft o.file
none_left f o e n m t at has other classes calls ls answers =
    left_so m.result t has other (execute classes calls m.body ls answers)
    (bodies_fit f o e n m at classes calls ls answers)
