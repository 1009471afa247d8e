-- Statements: loops, and what fits where (JLS 14).
use Rattle.std.specs.Prelude.{ℕ, ◌+◌, nat_eq, pos, negsuc, Bool, true, false, ◌&&◌, List, [], ◌∷◌, ◌++◌, length, Option}
use Rattle.std.specs.Prelude.{Some, None, Ok, bytes_eq, if◌then◌else◌, is_some, option_map}
use Rattle.ls_lexer.specs.declared.token.Span.{Span}
use Rattle.ls_events.specs.declared.value.Value.TheVariants as values
use Rattle.ls_events.specs.declared.value.ValueType.{ValueType}
use Rattle.ls_events.specs.declared.value.ValueType.TheVariants as types
use Rattle.ls_checked.specs.declared.tree.Operator.TheVariants as operators
use Rattle.ls_checked.specs.CheckedTree as checked
use Rattle.ls_types_elaboration.specs.declared.loops.LoopPart.{LoopPart}
use Rattle.ls_types_elaboration.specs.declared.loops.LoopPart.TheVariants as parts
use Rattle.ls_types_elaboration.specs.declared.mismatch.Mismatch.TheVariants as mismatches
use Rattle.ls_types_elaboration.specs.declared.rule.Rule.{Rule}
use Rattle.ls_types_elaboration.specs.declared.rule.Rule.TheVariants.{TwiceDeclared, WrongType, NotAssignable, NoLoop}
use Rattle.ls_types_elaboration.specs.declared.rule.Rule.TheVariants.{UnknownLabel}
use Rattle.ls_types_elaboration.specs.declared.static_types.Static.{Static}
use Rattle.ls_types_elaboration.specs.declared.static_types.Static.TheVariants.{Of}
use Rattle.ls_types_elaboration.specs.Trees.{Text, Name, span_of}
use Rattle.ls_types_elaboration.specs.Trees as parsed
use Rattle.ls_types_elaboration.specs.Elaborated.{Elaborated, broken, with_ok, unless_broken, each}
use Rattle.ls_types_elaboration.specs.Known.{Known, Local}
use Rattle.ls_types_elaboration.specs.StaticTypes.{of_type}
use Rattle.ls_types_elaboration.specs.TypedExpressions.{typed, fitting}
use Rattle.ls_types_elaboration.specs.Scopes.{Body, Slots, with_unnamed, Scope, declaration}
use Rattle.ls_types_elaboration.specs.Monitors.{synchronized}

-- a loop of the checked tree, what it is in the text, and its label there
pub record Loop : Type 0 where
  pub part : LoopPart
  pub label : Option Text

-- the enclosing loops, the innermost first
abbrev pub Loops : Type 0
Loops = List Loop

abbrev pub loop_of : LoopPart → Option Text → Loop
loop_of part label = record { part = part; label = label }

-- a checked form, and the method's slots so far
pub record WithSlots (A : Type 0) : Type 0 where
  pub tree : A
  pub slots : Slots

abbrev pub with_slots : {A : Type 0} → A → Slots → Elaborated (WithSlots A)
with_slots tree slots = Ok (record { tree = tree; slots = slots })

-- to `break` out of a `for` is to leave the whole `for`; to `continue` is to leave one turn
abbrev pub may_leave : (breaking : Bool) → LoopPart → Bool
may_leave true parts.Turn = false
may_leave false parts.For = false
may_leave breaking _ = true

-- a jump without a label has the innermost loop as its target
abbrev pub is_label : Option Text → Option Text → Bool
is_label None label = true
is_label (Some name) None = false
is_label (Some name) (Some label) = bytes_eq label name

abbrev pub is_target : (breaking : Bool) → Option Text → Loop → Bool
is_target breaking name l = may_leave breaking l.part && is_label name l.label

-- the loop to which a jump belongs, counted outward, and what it is (JLS 14.15, 14.16)
abbrev pub loop_named : (breaking : Bool) → Loops → Option Text → Option (ℕ × LoopPart)
loop_named breaking [] name = None
loop_named breaking (l ∷ ls) name =
    if is_target breaking name l then Some (0, l.part) else option_map (λ w. (w.0 + 1, w.1))
    (loop_named breaking ls name)

abbrev pub found_loop : Option (ℕ × LoopPart) → Rule → Span → Elaborated (ℕ × LoopPart)
found_loop None rule span = broken rule span
found_loop (Some w) rule span = Ok w

abbrev pub jump : (breaking : Bool) → Loops → Option Name → Span → Elaborated (ℕ × LoopPart)
jump breaking [] label span = broken NoLoop span
jump breaking (l ∷ ls) None span = found_loop (loop_named breaking (l ∷ ls) None) NoLoop span
jump breaking (l ∷ ls) (Some n) span = found_loop (loop_named breaking (l ∷ ls) (Some n.text)) UnknownLabel n.span

-- the checked form of a `continue`: if its loop is a turn of a `for`, a `break` out of that turn
abbrev pub continued : LoopPart → ℕ → checked.Statement
continued parts.Turn n = checked.Break n
continued _ n = checked.Continue n

-- a loop's label isn't the label of a loop around it (JLS 14.7)
abbrev pub label_text : Option Name → Option Text
label_text None = None
label_text (Some n) = Some n.text

abbrev pub fresh_label : {A : Type 0} → Loops → Option Name → Elaborated A → Elaborated A
fresh_label loops None go = go
fresh_label loops (Some n) go = unless_broken (is_some (loop_named true loops (Some n.text))) TwiceDeclared n.span go

-- a variable that may be assigned to (JLS 15.26): a local, a field, an element; slot 0 is `this`
pub data Place : Type 0 where
  AtSlot : (number : ℕ) → Place
  AtField : (target : checked.Expression) → (field : ℕ) → Place
  AtItem : (array index : checked.Expression) → Place

pub record Variable : Type 0 where
  pub place : Place
  pub type : ValueType

abbrev pub variable_as : ValueType → Place → Elaborated Variable
variable_as t p = Ok (record { place = p; type = t })

abbrev pub variable : Span → checked.Expression → Static → Elaborated Variable
variable span (checked.Slot n) (Of t) = if nat_eq n 0 then broken NotAssignable span else variable_as t (AtSlot n)
variable span (checked.Field e c f) (Of t) = variable_as t (AtField e f)
variable span (checked.Item a i) (Of t) = variable_as t (AtItem a i)
variable span _ _ = broken NotAssignable span

abbrev pub assigned : Place → checked.Expression → checked.Statement
assigned (AtSlot n) v = checked.SetSlot n v
assigned (AtField e f) v = checked.SetField e f v
assigned (AtItem a i) v = checked.SetItem a i v

-- a left side without the parentheses round it, which change nothing (JLS 15.8.5)
abbrev pub unwrapped : parsed.Expression → parsed.Expression
unwrapped (parsed.Paren inner span) = unwrapped inner
unwrapped e = e

-- assignment: the left side, then the value (JLS 15.26.1)
abbrev pub assignment : Known → List Local → parsed.Expression → parsed.Expression → Elaborated checked.Statement
assignment known locals target value =
    with_ok (typed known locals (unwrapped target)) (λ x.
    with_ok (variable (span_of target) x.expression x.static) (λ to.
    with_ok (fitting known locals to.type value) (λ v. Ok (assigned to.place v))))

-- what `+=`, `++` and `--` add to: a local or a field of type int (JLS 15.14.2, 15.14.3, 15.15.1, 15.15.2, 15.26.2)
pub data Counter : Type 0 where
  OfSlot : (number : ℕ) → Counter
  OfField : (target : checked.Expression) → (field : ℕ) → Counter

abbrev pub counter : Span → checked.Expression → Static → Elaborated Counter
counter span (checked.Slot n) (Of types.Int) = if nat_eq n 0 then broken NotAssignable span else Ok (OfSlot n)
counter span (checked.Slot n) (Of t) = if nat_eq n 0 then broken NotAssignable span else broken
    (of_type types.Int (Of t)) span
counter span (checked.Field e c f) (Of types.Int) = Ok (OfField e f)
counter span (checked.Field e c f) (Of t) = broken (of_type types.Int (Of t)) span
counter span (checked.Item a i) (Of t) = broken (of_type types.Int (Of t)) span
counter span _ _ = broken NotAssignable span

abbrev pub added : Counter → checked.Expression → checked.Statement
added (OfSlot n) v = checked.SetSlot n (checked.Binary operators.Add (checked.Slot n) v)
added (OfField e f) v = checked.AddField e f v

abbrev pub addition : Known →
    List Local →
    parsed.Expression →
    Elaborated checked.Expression →
    Elaborated checked.Statement
addition known locals target value =
    with_ok (typed known locals (unwrapped target)) (λ x.
    with_ok (counter (span_of target) x.expression x.static) (λ to.
    with_ok value (λ v. Ok (added to v))))

-- what `++` adds, or else what `--` adds
abbrev pub step : (up : Bool) → checked.Expression
step true = checked.Literal (values.Int (pos 1))
step false = checked.Literal (values.Int (negsuc 0))

-- an expression statement, and each part of the head of a `for` (JLS 14.8)
abbrev pub simple : Known → List Local → parsed.Simple → Elaborated checked.Statement
simple known locals (parsed.Assign target value) = assignment known locals target value
simple known locals (parsed.Add target value) = addition known locals target (fitting known locals types.Int value)
simple known locals (parsed.Count up before target) = addition known locals target (Ok (step up))
simple known locals (parsed.Evaluate e) = with_ok (typed known locals e) (λ x. Ok (checked.Evaluate x.expression))

abbrev pub one_simple : Known →
    List Local →
    List checked.Statement →
    parsed.Simple →
    Elaborated (List checked.Statement)
one_simple known locals front s = with_ok (simple known locals s) (λ s. Ok (front ++ s ∷ []))

abbrev pub simples : Known → List Local → List parsed.Simple → Elaborated (List checked.Statement)
simples known locals ss = each (one_simple known locals) [] ss

-- return with or without a value, against the method (JLS 14.17)
abbrev pub returned : Known →
    List Local →
    Option ValueType →
    Option parsed.Expression →
    Span →
    Elaborated checked.Statement
returned known locals None None span = Ok checked.ReturnNothing
returned known locals (Some t) None span = broken (WrongType (mismatches.NotReturned t)) span
returned known locals None (Some e) span = broken (WrongType mismatches.Returned) (span_of e)
returned known locals (Some t) (Some e) span = with_ok (fitting known locals t e) (λ v. Ok (checked.ReturnValue v))

-- what has a monitor: an object of a class of the file (JLS 14.19)
pub record Monitor : Type 0 where
  pub class : ℕ
  pub object : checked.Expression

abbrev pub monitor_of : Span → checked.Expression → Static → Elaborated Monitor
monitor_of span e (Of (types.Class c)) = Ok (record { class = c; object = e })
monitor_of span e x = broken (WrongType (mismatches.NoObject x)) span

abbrev pub monitor : Known → List Local → parsed.Expression → Elaborated Monitor
monitor known locals e = with_ok (typed known locals e) (λ x. monitor_of (span_of e) x.expression x.static)

-- a block's statements in order
abbrev pub sequence : List checked.Statement → checked.Statements
sequence [] = checked.Done
sequence (s ∷ ss) = checked.Then s (sequence ss)

abbrev pub opened : List Local → Slots → Scope
opened locals slots = record { statements = []; locals = locals; slots = slots }

-- a block whose locals go out of scope at its end (JLS 6.3)
abbrev pub closed : Scope → Elaborated (WithSlots checked.Statement)
closed scope = with_slots (checked.Block (sequence scope.statements)) scope.slots

abbrev pub followed : Scope → WithSlots checked.Statement → Scope
followed scope s = record { statements = scope.statements ++ s.tree ∷ []; locals = scope.locals; slots = s.slots }

-- what a `for` begins with; its locals are in scope in all of it (JLS 6.3, 14.14.1)
abbrev pub opening : Body → List Local → Slots → parsed.Opening → Elaborated Scope
opening body locals slots (parsed.Declares d) = declaration body (opened locals slots) d
opening body locals slots (parsed.Performs ss) =
    with_ok (simples body.known locals ss) (λ ss. Ok (record { statements = ss; locals = locals; slots = slots }))

-- a `for` without a condition goes on as with `true` (JLS 14.14.1.2)
abbrev pub condition : Known → List Local → Option parsed.Expression → Elaborated checked.Expression
condition known locals None = Ok (checked.Literal (values.Boolean true))
condition known locals (Some c) = fitting known locals types.Boolean c

-- One turn of a `for` is the body of a loop that never turns back. So a `break` of that loop goes on at the updates.
abbrev pub turn_once : checked.Statement → checked.Statement
turn_once s = checked.While (checked.Literal (values.Boolean true))
    (checked.Block (sequence (s ∷ checked.Break 0 ∷ [])))

abbrev pub for_loop : List checked.Statement →
    checked.Expression →
    checked.Statement →
    List checked.Statement →
    checked.Statement
for_loop front c s updates =
    checked.Block
    (sequence
    (front ++ checked.While c (checked.Block (sequence (turn_once s ∷ checked.Block (sequence updates) ∷ []))) ∷
    []))

abbrev mutual
  pub statement : Body → Loops → List Local → Slots → parsed.Statement → Elaborated (WithSlots checked.Statement)
  -- blocks, the empty statement (JLS 14.2, 14.6)
  statement body loops locals slots (parsed.Block is) = with_ok (items body loops (opened locals slots) is) closed
  statement body loops locals slots parsed.Empty = with_slots (checked.Block checked.Done) slots
  -- if (JLS 14.9)
  statement body loops locals slots (parsed.If c s) =
      with_ok (fitting body.known locals types.Boolean c) (λ c.
      with_ok (statement body loops locals slots s) (λ s.
      with_slots (checked.If c s.tree (checked.Block checked.Done)) s.slots))
  statement body loops locals slots (parsed.IfElse c s t) =
      with_ok (fitting body.known locals types.Boolean c) (λ c.
      with_ok (statement body loops locals slots s) (λ s.
      with_ok (statement body loops locals s.slots t) (λ t.
      with_slots (checked.If c s.tree t.tree) t.slots)))
  -- while, with its label (JLS 14.7, 14.12)
  statement body loops locals slots (parsed.While label c s) =
      fresh_label loops label (
      with_ok (fitting body.known locals types.Boolean c) (λ c.
      with_ok (statement body (loop_of parts.While (label_text label) ∷ loops) locals slots s) (λ s.
      with_slots (checked.While c s.tree) s.slots)))
  -- for, with its label (JLS 14.7, 14.14.1)
  statement body loops locals slots (parsed.For label o c us s) =
      fresh_label loops label (
      with_ok (opening body locals slots o) (λ front.
      with_ok (condition body.known front.locals c) (λ c.
      with_ok (simples body.known front.locals us) (λ us.
      with_ok (statement body (loop_of parts.Turn (label_text label) ∷ loop_of parts.For (label_text label) ∷ loops)
      front.locals front.slots s) (λ s.
      with_slots (for_loop front.statements c s.tree us) s.slots)))))
  -- break, continue (JLS 14.15, 14.16)
  statement body loops locals slots (parsed.Break label span) =
      with_ok (jump true loops label span) (λ w. with_slots (checked.Break w.0) slots)
  statement body loops locals slots (parsed.Continue label span) =
      with_ok (jump false loops label span) (λ w. with_slots (continued w.1 w.0) slots)
  -- return (JLS 14.17)
  statement body loops locals slots (parsed.Return value span) =
      with_ok (returned body.known locals body.result value span) (λ s. with_slots s slots)
  -- try and finally (JLS 14.20.2)
  statement body loops locals slots (parsed.Try b f) =
      with_ok (with_ok (items body loops (opened locals slots) b) closed) (λ b.
      with_ok (with_ok (items body loops (opened locals b.slots) f) closed) (λ f.
      with_slots (checked.Try b.tree f.tree) f.slots))
  -- synchronized (JLS 14.19): the object stays in a slot that no name finds
  statement body loops locals slots (parsed.Synchronized e b) =
      with_ok (monitor body.known locals e) (λ m.
      with_ok (with_ok (items body loops (opened locals (with_unnamed slots (types.Class m.class))) b) closed) (λ b.
      with_slots (synchronized (length slots.types) m.class m.object b.tree) b.slots))
  -- an expression statement (JLS 14.8)
  statement body loops locals slots (parsed.Perform s) =
      with_ok (simple body.known locals s) (λ s. with_slots s slots)

  -- the statements and declarations of a block, one after another
  pub items : Body → Loops → Scope → parsed.Items → Elaborated Scope
  items body loops scope parsed.NoItem = Ok scope
  items body loops scope (parsed.Do s rest) =
      with_ok (statement body loops scope.locals scope.slots s) (λ s. items body loops (followed scope s) rest)
  items body loops scope (parsed.Declare d rest) =
      with_ok (declaration body scope d) (λ scope. items body loops scope rest)
