-- What a text declares, and how names find it (JLS 6.3, 6.4.1, 6.5).
use Rattle.std.specs.Prelude.{ℕ, ◌+◌, Bool, ◌||◌, List, [], ◌∷◌, Option, Some, None, Ok, codes, bytes_eq, if◌then◌else◌}
use Rattle.std.specs.Prelude.{find, option_map, slice_get}
use Rattle.ls_lexer.specs.declared.token.Span.{Span}
use Rattle.ls_events.specs.declared.value.ValueType.{ValueType}
use Rattle.ls_events.specs.declared.value.ValueType.TheVariants as types
use Rattle.ls_types_elaboration.specs.declared.rule.Rule.TheVariants.{UnknownType}
use Rattle.ls_types_elaboration.specs.declared.known.FoundField.{FoundField}
use Rattle.ls_types_elaboration.specs.Trees.{Text}
use Rattle.ls_types_elaboration.specs.Trees as parsed
use Rattle.ls_types_elaboration.specs.Elaborated.{Elaborated, broken, with_ok}

-- a local variable or parameter in scope
pub record Local : Type 0 where
  pub name : Text
  pub type : ValueType
  pub slot : ℕ

pub record FieldSign : Type 0 where
  pub name : Text
  pub type : ValueType

-- a method, and its number in the file
pub record MethodSign : Type 0 where
  pub name : Text
  pub number : ℕ
  pub parameters : List ValueType
  pub result : Option ValueType

-- what a class declares, with its constructor's number and parameters
pub record ClassSign : Type 0 where
  pub fields : List FieldSign
  pub methods : List MethodSign
  pub constructor : ℕ
  pub parameters : List ValueType

-- what is known in a class: the names of the classes, what they declare, and the number of this class
pub record Known : Type 0 where
  pub names : List Text
  pub classes : List ClassSign
  pub own : ℕ

-- the number of a name in a list
abbrev pub number_of : List Text → Text → Option ℕ
number_of [] name = None
number_of (n ∷ ns) name = if bytes_eq n name then Some 0 else option_map (λ i. i + 1) (number_of ns name)

-- a local variable in scope (JLS 6.3)
abbrev pub local_named : List Local → Text → Option Local
local_named ls name = find (λ l. bytes_eq l.name name) ls

-- a field of a class, with its number
abbrev pub field_named : List FieldSign → Text → Option FoundField
field_named [] name = None
field_named (f ∷ fs) name =
    if bytes_eq f.name name
    then Some (record { number = 0; value_type = f.type })
    else option_map (λ x. record { number = x.number + 1; value_type = x.value_type }) (field_named fs name)

abbrev pub method_named : List MethodSign → Text → Option MethodSign
method_named ms name = find (λ m. bytes_eq m.name name) ms

abbrev pub fields_in : Option ClassSign → List FieldSign
fields_in None = []
fields_in (Some c) = c.fields

abbrev pub methods_in : Option ClassSign → List MethodSign
methods_in None = []
methods_in (Some c) = c.methods

abbrev pub parameters_in : Option ClassSign → List ValueType
parameters_in None = []
parameters_in (Some c) = c.parameters

-- a field of class number c, a method of it, the parameters of its constructor
abbrev pub field_of : Known → ℕ → Text → Option FoundField
field_of known c name = field_named (fields_in (slice_get known.classes c)) name

abbrev pub method_of : Known → ℕ → Text → Option MethodSign
method_of known c name = method_named (methods_in (slice_get known.classes c)) name

abbrev pub parameters_of : Known → ℕ → List ValueType
parameters_of known c = parameters_in (slice_get known.classes c)

-- `Lock` and `ReentrantLock` name one type; any other name is a class of the file (JLS 6.5.5.1)
abbrev pub is_lock_name : Text → Bool
is_lock_name name = bytes_eq name (codes "Lock") || bytes_eq name (codes "ReentrantLock")

abbrev pub class_type : (ℕ → ValueType) → Option ℕ → Span → Elaborated ValueType
class_type make None span = broken UnknownType span
class_type make (Some c) span = Ok (make c)

-- the type that is written (JLS 4.2, 4.3, 10.1; the argument of a markable is a class of the file)
abbrev pub type_of : List Text → parsed.TypeName → Elaborated ValueType
type_of names parsed.Int = Ok types.Int
type_of names parsed.Boolean = Ok types.Boolean
type_of names parsed.BooleanArray = Ok types.BooleanArray
type_of names (parsed.Class n) =
    if is_lock_name n.text then Ok types.Lock else class_type (λ c. types.Class c) (number_of names n.text) n.span
type_of names (parsed.Markable n) = class_type (λ c. types.Markable c) (number_of names n.text) n.span

-- what a method answers; `void` is nothing (JLS 8.4.5)
abbrev pub result_of : List Text → Option parsed.TypeName → Elaborated (Option ValueType)
result_of names None = Ok None
result_of names (Some t) = with_ok (type_of names t) (λ t. Ok (Some t))
