-- Expressions: types, and what their names mean (JLS 6.5.6, 15).
use Rattle.std.specs.Prelude.{ℕ, ◌+◌, ◌*◌, ◌-◌, ℤ, pos, negsuc, nat_lt, min, Bool, true, false, ◌&&◌, List, [], ◌∷◌}
use Rattle.std.specs.Prelude.{length, Option, Some, None, Ok, codes, bytes_eq, if◌then◌else◌, is_none}
use Rattle.ls_lexer.specs.declared.token.Span.{Span}
use Rattle.ls_events.specs.declared.value.Value.TheVariants as values
use Rattle.ls_events.specs.declared.value.ValueType.{ValueType}
use Rattle.ls_events.specs.declared.value.ValueType.TheVariants as types
use Rattle.ls_checked.specs.CheckedTree as checked
use Rattle.ls_types_elaboration.specs.declared.mismatch.Counts.{Counts}
use Rattle.ls_types_elaboration.specs.declared.rule.Rule.TheVariants.{UnknownName, WrongArguments}
use Rattle.ls_types_elaboration.specs.declared.known.FoundField.{FoundField}
use Rattle.ls_types_elaboration.specs.declared.static_types.Static.{Static}
use Rattle.ls_types_elaboration.specs.declared.static_types.Static.TheVariants.{Of, NullType}
use Rattle.ls_types_elaboration.specs.Trees.{Text, Name, span_of}
use Rattle.ls_types_elaboration.specs.Trees as parsed
use Rattle.ls_types_elaboration.specs.Elaborated.{Elaborated, broken, with_ok}
use Rattle.ls_types_elaboration.specs.Known.{Known, Local, local_named, field_of, method_of, number_of}
use Rattle.ls_types_elaboration.specs.StaticTypes.{Typed, typed_as, result_type, as_type, as_value, as_array}
use Rattle.ls_types_elaboration.specs.Members.{Member, method_member, member_of, found, made, maker_of, markable_maker}
use Rattle.ls_types_elaboration.specs.Operators.{unary_of, binary_of}

-- decimal digits, the first of them the highest (JLS 3.10.1); no number token is above 2147483648
abbrev pub digits_value : ℕ → Text → ℕ
digits_value n [] = n
digits_value n (d ∷ ds) = digits_value (min (n * 10 + (d - 48)) 2147483648) ds

-- 2147483648 comes only after a minus; it is read as the least int, whose negation is itself (JLS 15.15.4)
abbrev pub int_of_digits : ℕ → ℤ
int_of_digits n = if nat_lt n 2147483648 then pos n else negsuc 2147483647

abbrev pub number : Text → checked.Expression
number text = checked.Literal (values.Int (int_of_digits (digits_value 0 text)))

-- how many arguments there are
abbrev pub argument_count : parsed.Expressions → ℕ
argument_count parsed.End = 0
argument_count (parsed.More e es) = argument_count es + 1

-- how many arguments a call with these parameters wants, and how many it has
abbrev pub counts : List ValueType → parsed.Expressions → Counts
counts ts es = record { wanted = length ts; found = argument_count es }

-- a field of the own class
abbrev pub own_field : ℕ → Option FoundField → Span → Elaborated Typed
own_field own None span = broken UnknownName span
own_field own (Some f) span = typed_as f.value_type (checked.Field (checked.Slot 0) own f.number)

-- a simple name: a local in scope, else a field of the own class (JLS 6.4.1, 6.5.6.1)
abbrev pub local_or : Option Local → Elaborated Typed → Elaborated Typed
local_or (Some l) other = typed_as l.type (checked.Slot l.slot)
local_or None other = other

abbrev pub name_of : Known → List Local → Name → Elaborated Typed
name_of known locals n =
    local_or (local_named locals n.text) (own_field known.own (field_of known known.own n.text) n.span)

-- a field of an object of class c (JLS 15.11.1)
abbrev pub field_in : ℕ → Option FoundField → checked.Expression → Span → Elaborated Typed
field_in c None e span = broken UnknownName span
field_in c (Some f) e span = typed_as f.value_type (checked.Field e c f.number)

abbrev pub field_at : Known → Static → checked.Expression → Name → Elaborated Typed
field_at known (Of (types.Class c)) e n = field_in c (field_of known c n.text) e n.span
field_at known _ e n = broken UnknownName n.span

-- `Integer`, if no local or field in scope has that name (JLS 6.4.2)
abbrev pub is_integer : Known → List Local → parsed.Expression → Bool
is_integer known locals (parsed.Named n) =
    bytes_eq n.text (codes "Integer")
    && is_none (local_named locals n.text) && is_none (field_of known known.own n.text)
is_integer known locals _ = false

-- Integer.MIN_VALUE, Integer.MAX_VALUE (java.lang.Integer)
abbrev pub integer_constant : Name → Elaborated Typed
integer_constant n =
    if bytes_eq n.text (codes "MIN_VALUE") then typed_as types.Int (checked.Literal (values.Int (negsuc 2147483647)))
    else if bytes_eq n.text (codes "MAX_VALUE") then typed_as types.Int (checked.Literal (values.Int (pos 2147483647)))
    else broken UnknownName n.span

-- a call whose arguments are typed
abbrev pub call_of : Member → checked.Expression → checked.Expressions → Elaborated Typed
call_of m target es = Ok (record { expression = checked.Call target m.called es; static = result_type m.result })

abbrev mutual
  pub typed : Known → List Local → parsed.Expression → Elaborated Typed
  -- literals (JLS 15.8.1), `this` (JLS 15.8.3)
  typed known locals (parsed.Number text span) = typed_as types.Int (number text)
  typed known locals (parsed.True span) = typed_as types.Boolean (checked.Literal (values.Boolean true))
  typed known locals (parsed.False span) = typed_as types.Boolean (checked.Literal (values.Boolean false))
  typed known locals (parsed.Null span) = Ok (record {
    expression = checked.Literal (values.Reference 0);
    static = NullType;
  })
  typed known locals (parsed.This span) = typed_as (types.Class known.own) (checked.Slot 0)
  -- names (JLS 6.5.6.1), parentheses (JLS 15.8.5)
  typed known locals (parsed.Named n) = name_of known locals n
  typed known locals (parsed.Paren inner span) = with_ok (typed known locals inner) (as_value (span_of inner))
  -- operators (JLS 15.15 to 15.24)
  typed known locals (parsed.Unary op operand span) = with_ok (typed known locals operand)
      (unary_of op (span_of operand))
  typed known locals (parsed.Binary op left right span) =
      with_ok (typed known locals left) (λ x. with_ok (typed known locals right) (λ y.
      binary_of op span (span_of left) (span_of right) x y))
  -- a constant of Integer, or field access (JLS 6.5.6.2, 15.11)
  typed known locals (parsed.Field target n span) =
      if is_integer known locals target
      then integer_constant n
      else with_ok (typed known locals target) (λ x. field_at known x.static x.expression n)
  -- a method of the own class (JLS 15.12)
  typed known locals (parsed.Call n es span) =
      with_ok (found (method_member (method_of known known.own n.text)) n.span) (λ m.
      with_ok (passed known locals (counts m.parameters es) m.parameters es span) (call_of m (checked.Slot 0)))
  -- a method of an object, by the static type of the target (JLS 15.12)
  typed known locals (parsed.CallOn target n es span) =
      with_ok (typed known locals target) (λ x.
      with_ok (found (member_of known x.static n.text) n.span) (λ m.
      with_ok (passed known locals (counts m.parameters es) m.parameters es span) (call_of m x.expression)))
  -- array access (JLS 15.10.3)
  typed known locals (parsed.Item array index span) =
      with_ok (typed known locals array) (λ x. with_ok (as_array (span_of array) x) (λ a.
      with_ok (typed known locals index) (λ y. with_ok (as_type types.Int (span_of index) y) (λ i.
      typed_as types.Boolean (checked.Item a i)))))
  -- making (JLS 15.9, 15.10.1)
  typed known locals (parsed.New n es span) =
      with_ok (maker_of known n) (λ m.
      with_ok (passed known locals (counts m.parameters es) m.parameters es span) (λ es.
      typed_as m.type (made m.makes es)))
  typed known locals (parsed.NewMarkable n es span) =
      with_ok (markable_maker (number_of known.names n.text) n.span) (λ m.
      with_ok (passed known locals (counts m.parameters es) m.parameters es span) (λ es.
      typed_as m.type (made m.makes es)))
  typed known locals (parsed.NewArray length span) =
      with_ok (typed known locals length) (λ x. with_ok (as_type types.Int (span_of length) x) (λ n.
      typed_as types.BooleanArray (checked.MakeArray n)))

  -- the arguments of a call, one for each parameter, each of a type that fits the parameter (JLS 15.12.2.2)
  pub passed : Known →
      List Local →
      Counts →
      List ValueType →
      parsed.Expressions →
      Span →
      Elaborated checked.Expressions
  passed known locals n [] parsed.End span = Ok checked.End
  passed known locals n (t ∷ ts) (parsed.More e es) span =
      with_ok (typed known locals e) (λ x. with_ok (as_type t (span_of e) x) (λ a.
      with_ok (passed known locals n ts es span) (λ rest. Ok (checked.More a rest))))
  passed known locals n _ _ span = broken (WrongArguments n) span

-- an expression where a value of a type is wanted
abbrev pub fitting : Known → List Local → ValueType → parsed.Expression → Elaborated checked.Expression
fitting known locals t e = with_ok (typed known locals e) (as_type t (span_of e))
