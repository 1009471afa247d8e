-- What an assignment may name: no slot but that of a local in scope.
use Rattle.std.proofs.Common.{◌≡◌, ◌≢◌, ℕ, zero, suc, true, false, List, [], ◌∷◌, Option, Some, None, Ok, refl, arith}
use Rattle.std.proofs.Common.{nat_eq, pos, negsuc}
use Rattle.std.specs.Prelude.{bytes_eq, codes}
use Rattle.ls_lexer.specs.declared.token.Span.{Span}
use Rattle.ls_tree.specs.declared.tree.UnaryOp.{UnaryOp}
use Rattle.ls_tree.specs.declared.tree.UnaryOp.TheVariants as unary
use Rattle.ls_tree.specs.declared.tree.BinaryOp.{BinaryOp}
use Rattle.ls_tree.specs.declared.tree.BinaryOp.TheVariants as written
use Rattle.ls_events.specs.declared.value.Value.TheVariants as values
use Rattle.ls_events.specs.declared.value.ValueType.{ValueType}
use Rattle.ls_events.specs.declared.value.ValueType.TheVariants as types
use Rattle.ls_checked.specs.CheckedTree as checked
use Rattle.ls_checked.specs.declared.tree.Operator.{Operator}
use Rattle.ls_checked.specs.declared.tree.Operator.TheVariants as operators
use Rattle.ls_types_elaboration.specs.declared.known.FoundField.{FoundField}
use Rattle.ls_types_elaboration.specs.declared.mismatch.Mismatch.TheVariants as mismatches
use Rattle.ls_types_elaboration.specs.declared.rule.Rule.TheVariants as rules
use Rattle.ls_types_elaboration.specs.declared.members.Makes.{Makes}
use Rattle.ls_types_elaboration.specs.declared.members.Makes.TheVariants.{AnObject, ALock, AMarkable}
use Rattle.ls_types_elaboration.specs.declared.static_types.Static.{Static}
use Rattle.ls_types_elaboration.specs.declared.static_types.Static.TheVariants.{Of}
use Rattle.ls_types_elaboration.specs.Trees as parsed
use Rattle.ls_types_elaboration.specs.Trees.{Text, Name, span_of}
use Rattle.ls_types_elaboration.specs.Elaborated.{Elaborated, broken, with_ok}
use Rattle.ls_types_elaboration.specs.Known.{Known, Local, local_named, field_of, method_of, number_of}
use Rattle.ls_types_elaboration.specs.StaticTypes.{Typed, typed_as, as_type, as_value, as_array, is_void, comparable}
use Rattle.ls_types_elaboration.specs.StaticTypes.{of_type}
use Rattle.ls_types_elaboration.specs.Members.{method_member, member_of, found, made, maker_of, markable_maker}
use Rattle.ls_types_elaboration.specs.Operators.{unary_of, of_operands, computed, compared, binary_of}
use Rattle.ls_types_elaboration.specs.TypedExpressions.{own_field, local_or, field_in, field_at, is_integer}
use Rattle.ls_types_elaboration.specs.TypedExpressions.{counts, integer_constant, typed, passed}
use Rattle.ls_types_elaboration.specs.TypedStatements.{Place, AtSlot, Variable, variable, variable_as, Counter, OfSlot}
use Rattle.ls_types_elaboration.specs.TypedStatements.{counter}
use Rattle.ls_types_laws.proofs.Results.{Gives, bind, after, either}
use Rattle.ls_types_laws.proofs.Lists.{Each, each_weaker, each_found}

-- none of the locals is in the slot
abbrev pub Others : ℕ → List Local → Type 0
Others n locals = Each (λ (l : Local). l.slot ≢ n) locals

-- the slot of a local: whatever none of them is in is another
abbrev pub IsNamed : List Local → ℕ → Type 0
IsNamed locals m = (n : ℕ) → Others n locals → m ≢ n

named_each : (locals : List Local) → Each (λ (l : Local). IsNamed locals l.slot) locals
named_each [] = tt
named_each (l ∷ locals) = (
  λ n h. h.0,
  each_weaker (λ (k : Local). IsNamed locals k.slot) (λ (k : Local). IsNamed (l ∷ locals) k.slot)
      locals (named_each locals) (λ k h n others. h n others.1),
)

-- a slot that an expression is, other than `this`
abbrev pub Names : List Local → checked.Expression → Type 0
Names locals (checked.Slot m) = m ≢ 0 → IsNamed locals m
Names locals _ = Unit {0}

module _ (known : Known) (locals : List Local) where
  -- if a typed expression is a slot other than `this`, it is the slot of a local in scope
  abbrev pub Named : Typed → Type 0
  Named x = Names locals x.expression

  own_named : (own : ℕ) (o : Option FoundField) (span : Span) → Gives Named (own_field own o span)
  own_named own None span = tt
  own_named own (Some f) span = tt

  local_named_or : (text : Text) (o : Option Local) → local_named locals text ≡ o → (other : Elaborated Typed) →
      Gives Named other → Gives Named (local_or o other)
  local_named_or text None is other h = h
  local_named_or text (Some l) is other h =
      λ z. each_found (λ (l : Local). IsNamed locals l.slot) (λ (l : Local). bytes_eq l.name text) locals l
      (named_each locals) is

  value_named : (span : Span) (x : Typed) → Named x → Gives Named (as_value span x)
  value_named span x h = either Named (is_void x.static) (broken (rules.WrongType mismatches.NoValue) span) (Ok x)
      (λ z. tt) (λ z. h)

  unary_named : (op : UnaryOp) (span : Span) (x : Typed) → Gives Named (unary_of op span x)
  unary_named unary.Minus span x = after Named (as_type types.Int span x) _ (λ e. tt)
  unary_named unary.Not span x = after Named (as_type types.Boolean span x) _ (λ e. tt)

  operands_named : (t : ValueType) (make : checked.Expression → checked.Expression → Elaborated Typed)
      (left right : Span) (x y : Typed) →
      ((a b : checked.Expression) → Gives Named (make a b)) → Gives Named (of_operands t make left right x y)
  operands_named t make left right x y h =
      after Named (as_type t left x) _ (λ a. after Named (as_type t right y) _ (λ b. h a b))

  computed_named : (t : ValueType) (op : Operator) (left right : Span) (x y : Typed) →
      Gives Named (computed t op left right x y)
  computed_named t op left right x y =
      operands_named types.Int (λ a b. typed_as t (checked.Binary op a b)) left right x y (λ a b. tt)

  compared_named : (op : Operator) (span left right : Span) (x y : Typed) →
      Gives Named (compared op span left right x y)
  compared_named op span left right x y =
      after Named (as_value left x) _ (λ x. after Named (as_value right y) _ (λ y.
      either Named (comparable x.static y.static) (typed_as types.Boolean
      (checked.Binary op x.expression y.expression))
      (broken (rules.WrongType (mismatches.Operands x.static y.static)) span) (λ z. tt) (λ z. tt)))

  binary_named : (op : BinaryOp) (span left right : Span) (x y : Typed) → Gives Named (binary_of op span left right x y)
  binary_named written.Or span left right x y =
      operands_named types.Boolean (λ a b. typed_as types.Boolean (checked.Or a b)) left right x y (λ a b. tt)
  binary_named written.And span left right x y =
      operands_named types.Boolean (λ a b. typed_as types.Boolean (checked.And a b)) left right x y (λ a b. tt)
  binary_named written.Equal span left right x y = compared_named operators.Equal span left right x y
  binary_named written.NotEqual span left right x y = compared_named operators.NotEqual span left right x y
  binary_named written.Less span left right x y = computed_named types.Boolean operators.Less left right x y
  binary_named written.Greater span left right x y = computed_named types.Boolean operators.Greater left right x y
  binary_named written.LessEqual span left right x y = computed_named types.Boolean operators.LessEqual left right x y
  binary_named written.GreaterEqual span left right x y =
      computed_named types.Boolean operators.GreaterEqual left right x y
  binary_named written.Add span left right x y = computed_named types.Int operators.Add left right x y
  binary_named written.Subtract span left right x y = computed_named types.Int operators.Subtract left right x y
  binary_named written.Multiply span left right x y = computed_named types.Int operators.Multiply left right x y
  binary_named written.Divide span left right x y = computed_named types.Int operators.Divide left right x y
  binary_named written.Remainder span left right x y = computed_named types.Int operators.Remainder left right x y

  constant_named : (n : Name) → Gives Named (integer_constant n)
  constant_named n =
      either Named (bytes_eq n.text (codes "MIN_VALUE"))
      (typed_as types.Int (checked.Literal (values.Int (negsuc 2147483647)))) _ (λ z. tt)
      (λ z. either Named (bytes_eq n.text (codes "MAX_VALUE"))
      (typed_as types.Int (checked.Literal (values.Int (pos 2147483647)))) (broken rules.UnknownName n.span)
      (λ z. tt) (λ z. tt))

  field_in_named : (c : ℕ) (o : Option FoundField) (e : checked.Expression) (span : Span) →
      Gives Named (field_in c o e span)
  field_in_named c None e span = tt
  field_in_named c (Some f) e span = tt

  field_named : (x : Static) (e : checked.Expression) (n : Name) → Gives Named (field_at known x e n)
  field_named (Of (types.Class c)) e n = field_in_named c (field_of known c n.text) e n.span
  field_named _ e n = tt

  made_named : (m : Makes) (es : checked.Expressions) → Names locals (made m es)
  made_named (AnObject c) es = tt
  made_named ALock es = tt
  made_named (AMarkable c) es = tt

  -- each typed expression is so
  pub typed_named : (e : parsed.Expression) → Gives Named (typed known locals e)
  typed_named (parsed.Number text span) = tt
  typed_named (parsed.True span) = tt
  typed_named (parsed.False span) = tt
  typed_named (parsed.Null span) = tt
  typed_named (parsed.This span) = λ z. absurd (z refl)
  typed_named (parsed.Named n) =
      local_named_or n.text (local_named locals n.text) refl _
      (own_named known.own (field_of known known.own n.text) n.span)
  typed_named (parsed.Paren inner span) =
      bind Named Named (typed known locals inner) _ (typed_named inner) (λ x h. value_named (span_of inner) x h)
  typed_named (parsed.Unary op operand span) =
      after Named (typed known locals operand) _ (λ x. unary_named op (span_of operand) x)
  typed_named (parsed.Binary op left right span) =
      after Named (typed known locals left) _ (λ x. after Named (typed known locals right) _
      (λ y. binary_named op span (span_of left) (span_of right) x y))
  typed_named (parsed.Field target n span) =
      either Named (is_integer known locals target) (integer_constant n)
      (with_ok (typed known locals target) (λ x. field_at known x.static x.expression n))
      (λ z. constant_named n) (λ z. after Named (typed known locals target) _
      (λ x. field_named x.static x.expression n))
  typed_named (parsed.Call n es span) =
      after Named (found (method_member (method_of known known.own n.text)) n.span) _
      (λ m. after Named (passed known locals (counts m.parameters es) m.parameters es span) _ (λ es. tt))
  typed_named (parsed.CallOn target n es span) =
      after Named (typed known locals target) _ (λ x. after Named (found (member_of known x.static n.text) n.span) _
      (λ m.
      after Named (passed known locals (counts m.parameters es) m.parameters es span) _ (λ es. tt)))
  typed_named (parsed.Item array index span) =
      after Named (typed known locals array) _ (λ x. after Named (as_array (span_of array) x) _ (λ a.
      after Named (typed known locals index) _ (λ y. after Named (as_type types.Int (span_of index) y) _ (λ i. tt))))
  typed_named (parsed.New n es span) =
      after Named (maker_of known n) _ (λ m. after Named (passed known locals (counts m.parameters es)
      m.parameters es span) _
      (λ es. made_named m.makes es))
  typed_named (parsed.NewMarkable n es span) =
      after Named (markable_maker (number_of known.names n.text) n.span) _
      (λ m. after Named (passed known locals (counts m.parameters es) m.parameters es span) _
      (λ es. made_named m.makes es))
  typed_named (parsed.NewArray length span) =
      after Named (typed known locals length) _ (λ x. after Named (as_type types.Int (span_of length) x) _ (λ n. tt))

-- what is assigned to, and what is added to

no_truth : true ≡ false → ⊥
no_truth e = cc

not_this : (n : ℕ) → nat_eq n 0 ≡ false → n ≢ 0
not_this zero e = λ z. no_truth e
not_this (suc n) e = λ z. absurd (omega (arith, z))

-- if a variable that may be assigned to is a slot, it is the slot of a local in scope
abbrev pub PlaceIsNamed : List Local → Place → Type 0
PlaceIsNamed locals (AtSlot m) = IsNamed locals m
PlaceIsNamed locals _ = Unit {0}

-- if a variable that is added to is a slot, it is the slot of a local in scope
abbrev pub CounterIsNamed : List Local → Counter → Type 0
CounterIsNamed locals (OfSlot m) = IsNamed locals m
CounterIsNamed locals _ = Unit {0}

-- each variable that may be assigned to is so
pub variable_named : (locals : List Local) (s : Span) (e : checked.Expression) (x : Static) → Names locals e →
    Gives (λ (to : Variable). PlaceIsNamed locals to.place) (variable s e x)
variable_named locals s (checked.Slot n) (Of t) h =
    either (λ (to : Variable). PlaceIsNamed locals to.place) (nat_eq n 0) (broken rules.NotAssignable s)
    (variable_as t (AtSlot n)) (λ z. tt) (λ z. h (not_this n z))
variable_named locals s (checked.Field e c f) (Of t) h = tt
variable_named locals s (checked.Item a i) (Of t) h = tt
variable_named locals s _ _ h = tt

-- each variable that is added to is so
pub counter_named : (locals : List Local) (s : Span) (e : checked.Expression) (x : Static) → Names locals e →
    Gives (CounterIsNamed locals) (counter s e x)
counter_named locals s (checked.Slot n) (Of types.Int) h =
    either (CounterIsNamed locals) (nat_eq n 0) (broken rules.NotAssignable s) (Ok (OfSlot n)) (λ z. tt)
    (λ z. h (not_this n z))
counter_named locals s (checked.Slot n) (Of t) h =
    either (CounterIsNamed locals) (nat_eq n 0) (broken rules.NotAssignable s)
    (broken (of_type types.Int (Of t)) s) (λ z. tt)
    (λ z. tt)
counter_named locals s (checked.Field e c f) (Of types.Int) h = tt
counter_named locals s (checked.Field e c f) (Of t) h = tt
counter_named locals s (checked.Item a i) (Of t) h = tt
counter_named locals s _ _ h = tt
