-- Types of expressions, and what fits where (JLS 4.1, 5.1.1, 5.1.5, 5.2).
use Rattle.std.specs.Prelude.{nat_eq, Bool, true, false, Option, Some, None, Ok, if◌then◌else◌}
use Rattle.ls_lexer.specs.declared.token.Span.{Span}
use Rattle.ls_events.specs.declared.value.ValueType.{ValueType}
use Rattle.ls_events.specs.declared.value.ValueType.TheVariants.{Int, Boolean, BooleanArray, Class, Lock, Markable}
use Rattle.ls_checked.specs.CheckedTree as checked
use Rattle.ls_types_elaboration.specs.declared.mismatch.Mismatch.TheVariants as mismatches
use Rattle.ls_types_elaboration.specs.declared.rule.Rule.{Rule}
use Rattle.ls_types_elaboration.specs.declared.rule.Rule.TheVariants.{WrongType}
use Rattle.ls_types_elaboration.specs.declared.static_types.Static.{Static}
use Rattle.ls_types_elaboration.specs.declared.static_types.Static.TheVariants.{Of, NullType, Void}
use Rattle.ls_types_elaboration.specs.Elaborated.{Elaborated, broken}

-- an expression and its type
pub record Typed : Type 0 where
  pub expression : checked.Expression
  pub static : Static

abbrev pub typed_as : ValueType → checked.Expression → Elaborated Typed
typed_as t e = Ok (record { expression = e; static = Of t })

-- the type of a call
abbrev pub result_type : Option ValueType → Static
result_type None = Void
result_type (Some t) = Of t

abbrev pub same_type : ValueType → ValueType → Bool
same_type Int Int = true
same_type Boolean Boolean = true
same_type BooleanArray BooleanArray = true
same_type (Class m) (Class n) = nat_eq m n
same_type Lock Lock = true
same_type (Markable m) (Markable n) = nat_eq m n
same_type _ _ = false

-- the reference types (JLS 4.3)
abbrev pub is_reference : ValueType → Bool
is_reference Int = false
is_reference Boolean = false
is_reference _ = true

-- assignment, which passes arguments and returns values too (JLS 5.2, 5.3, 14.17)
abbrev pub fits : ValueType → Static → Bool
fits t (Of u) = same_type t u
fits t NullType = is_reference t
fits t Void = false

-- two values that `==` may compare (JLS 15.21.1, 15.21.2, 15.21.3)
abbrev pub comparable : Static → Static → Bool
comparable (Of t) x = fits t x
comparable NullType (Of t) = is_reference t
comparable NullType NullType = true
comparable _ _ = false

-- a value of one type where another is wanted
abbrev pub of_type : ValueType → Static → Rule
of_type wanted found = WrongType (mismatches.Type wanted found)

-- an expression where a value of a type is wanted
abbrev pub as_type : ValueType → Span → Typed → Elaborated checked.Expression
as_type t span x = if fits t x.static then Ok x.expression else broken (of_type t x.static) span

abbrev pub is_void : Static → Bool
is_void (Of t) = false
is_void NullType = false
is_void Void = true

-- an expression where any value is wanted (JLS 15.1)
abbrev pub as_value : Span → Typed → Elaborated Typed
as_value span x = if is_void x.static then broken (WrongType mismatches.NoValue) span else Ok x

-- an array that is accessed; `null` is none (JLS 15.10.3)
abbrev pub is_array : Static → Bool
is_array (Of BooleanArray) = true
is_array _ = false

abbrev pub as_array : Span → Typed → Elaborated checked.Expression
as_array span x = if is_array x.static then Ok x.expression else broken (of_type BooleanArray x.static) span
