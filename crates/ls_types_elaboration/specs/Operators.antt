-- The operators on operands that are typed (JLS 15.15, 15.17, 15.18, 15.20, 15.21, 15.23, 15.24).
use Rattle.std.specs.Prelude.{if◌then◌else◌}
use Rattle.ls_lexer.specs.declared.token.Span.{Span}
use Rattle.ls_events.specs.declared.value.ValueType.{ValueType}
use Rattle.ls_events.specs.declared.value.ValueType.TheVariants.{Int, Boolean}
use Rattle.ls_tree.specs.declared.tree.UnaryOp.{UnaryOp}
use Rattle.ls_tree.specs.declared.tree.UnaryOp.TheVariants.{Minus, Not}
use Rattle.ls_tree.specs.declared.tree.BinaryOp.{BinaryOp}
use Rattle.ls_tree.specs.declared.tree.BinaryOp.TheVariants as written
use Rattle.ls_checked.specs.declared.tree.Operator.{Operator}
use Rattle.ls_checked.specs.declared.tree.Operator.TheVariants as operators
use Rattle.ls_types_elaboration.specs.declared.mismatch.Mismatch.TheVariants as mismatches
use Rattle.ls_types_elaboration.specs.declared.rule.Rule.TheVariants.{WrongType}
use Rattle.ls_checked.specs.CheckedTree as checked
use Rattle.ls_types_elaboration.specs.Elaborated.{Elaborated, broken, with_ok}
use Rattle.ls_types_elaboration.specs.StaticTypes.{Typed, typed_as, as_type, as_value, comparable}

-- unary minus, logical complement (JLS 15.15.4, 15.15.6)
abbrev pub unary_of : UnaryOp → Span → Typed → Elaborated Typed
unary_of Minus span x = with_ok (as_type Int span x) (λ e. typed_as Int (checked.Negate e))
unary_of Not span x = with_ok (as_type Boolean span x) (λ e. typed_as Boolean (checked.Not e))

-- both operands of one type
abbrev pub of_operands : ValueType →
    (checked.Expression → checked.Expression → Elaborated Typed) →
    Span →
    Span →
    Typed →
    Typed →
    Elaborated Typed
of_operands t make left right x y =
    with_ok (as_type t left x) (λ a. with_ok (as_type t right y) (λ b. make a b))

-- arithmetic (JLS 15.17, 15.18.2), comparison (JLS 15.20.1)
abbrev pub computed : ValueType → Operator → Span → Span → Typed → Typed → Elaborated Typed
computed t op = of_operands Int (λ a b. typed_as t (checked.Binary op a b))

-- equality (JLS 15.21)
abbrev pub compared : Operator → Span → Span → Span → Typed → Typed → Elaborated Typed
compared op span left right x y =
    with_ok (as_value left x) (λ x. with_ok (as_value right y) (λ y.
    if comparable x.static y.static
    then typed_as Boolean (checked.Binary op x.expression y.expression)
    else broken (WrongType (mismatches.Operands x.static y.static)) span))

abbrev pub binary_of : BinaryOp → Span → Span → Span → Typed → Typed → Elaborated Typed
binary_of written.Or span left right x y = of_operands Boolean (λ a b. typed_as Boolean (checked.Or a b)) left right x y
binary_of written.And span left right x y = of_operands Boolean (λ a b. typed_as Boolean (checked.And a b)) left right x
    y
binary_of written.Equal span left right x y = compared operators.Equal span left right x y
binary_of written.NotEqual span left right x y = compared operators.NotEqual span left right x y
binary_of written.Less span left right x y = computed Boolean operators.Less left right x y
binary_of written.Greater span left right x y = computed Boolean operators.Greater left right x y
binary_of written.LessEqual span left right x y = computed Boolean operators.LessEqual left right x y
binary_of written.GreaterEqual span left right x y = computed Boolean operators.GreaterEqual left right x y
binary_of written.Add span left right x y = computed Int operators.Add left right x y
binary_of written.Subtract span left right x y = computed Int operators.Subtract left right x y
binary_of written.Multiply span left right x y = computed Int operators.Multiply left right x y
binary_of written.Divide span left right x y = computed Int operators.Divide left right x y
binary_of written.Remainder span left right x y = computed Int operators.Remainder left right x y
