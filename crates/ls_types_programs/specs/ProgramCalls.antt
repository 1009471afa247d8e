-- The calls of a thread program against the classes of a file.
use Rattle.std.specs.Prelude.{ℕ, ◌+◌, ◌-◌, ℤ, pos, negsuc, nat_lt, ◌==◌, Bool, true, false, List, [], ◌∷◌, ◌++◌, length}
use Rattle.std.specs.Prelude.{Option, Some, None, bytes_eq, if◌then◌else◌, slice_get, option_map}
use Rattle.ls_events.specs.declared.value.Value.{Value}
use Rattle.ls_events.specs.declared.value.Value.TheVariants as values
use Rattle.ls_events.specs.declared.value.ValueType.{ValueType}
use Rattle.ls_events.specs.declared.value.ValueType.TheVariants as types
use Rattle.ls_checked.specs.CheckedProgram.{SetupName, ProgramCall, Making, Calling}
use Rattle.ls_types_elaboration.specs.Trees.{Text}
use Rattle.ls_types_elaboration.specs.Known.{MethodSign, method_named, methods_in, parameters_in}
use Rattle.ls_types_elaboration.specs.TypedExpressions.{digits_value}
use Rattle.ls_types_elaboration.specs.Elaboration.{ElaboratedFile}

-- what is called: the constructor of a class, for a new setup name; or a method of the object that a setup name holds
pub data Callee : Type 0 where
  Maker : (name : Text) → (class : ℕ) → (class_name : Text) → Callee
  Method : (name method : ℕ) → (method_name : Text) → (result : Option ValueType) → Callee

-- a call, with the arguments that are read so far
pub record Pending : Type 0 where
  pub callee : Callee
  pub types : List ValueType
  pub values : List Value

abbrev pub pending : Callee → List ValueType → Pending
pending callee types = record { callee = callee; types = types; values = [] }

-- the number of the setup name with this text
abbrev pub setup_named : List SetupName → Text → Option ℕ
setup_named [] name = None
setup_named (n ∷ ns) name = if bytes_eq n.name name then Some 0 else option_map (λ i. i + 1) (setup_named ns name)

-- a class of the file
abbrev pub maker : ElaboratedFile → Text → Text → Option ℕ → Option Pending
maker o name class_name None = None
maker o name class_name (Some c) = Some (pending (Maker name c class_name) (parameters_in (slice_get o.signs c)))

-- a method that answers an int, a boolean or nothing
abbrev pub is_plain : Option ValueType → Bool
is_plain None = true
is_plain (Some types.Int) = true
is_plain (Some types.Boolean) = true
is_plain (Some _) = false

abbrev pub callable : ℕ → Text → Option MethodSign → Option Pending
callable n name None = None
callable n name (Some m) = if is_plain m.result then Some (pending (Method n m.number name m.result) m.parameters) else
    None

-- a method of the class of the object that a setup name holds
abbrev pub method_on : ElaboratedFile → Option SetupName → Text → Option MethodSign
method_on o None name = None
method_on o (Some s) name = method_named (methods_in (slice_get o.signs s.class)) name

abbrev pub called_on : ElaboratedFile → ℕ → Option SetupName → Text → Option Pending
called_on o n s name = callable n name (method_on o s name)

-- an int or a boolean where one is wanted
abbrev pub fits : Option ValueType → Value → Bool
fits (Some types.Int) (values.Int z) = true
fits (Some types.Boolean) (values.Boolean b) = true
fits _ _ = false

-- one more argument
abbrev pub with_argument : Pending → Value → Option Pending
with_argument p v =
    if fits (slice_get p.types (length p.values)) v
    then Some (record { callee = p.callee; types = p.types; values = p.values ++ v ∷ [] })
    else None

-- every parameter has its argument
abbrev pub is_full : Pending → Bool
is_full p = length p.values == length p.types

-- a number without a minus: it is below 2147483648
abbrev pub plain_number : Text → Option Value
plain_number text =
    if nat_lt (digits_value 0 text) 2147483648 then Some (values.Int (pos (digits_value 0 text))) else None

abbrev pub negated : ℕ → ℤ
negated n = if n == 0 then pos 0 else negsuc (n - 1)

abbrev pub minus_number : Text → Value
minus_number text = values.Int (negated (digits_value 0 text))

-- the call as the program keeps it; a new setup name gets the next number
abbrev pub called : ℕ → Callee → List Value → ProgramCall
called names (Maker name class class_name) vs = Making names class class_name vs
called names (Method name method method_name result) vs = Calling name method method_name result vs

abbrev pub call_of : ℕ → Pending → ProgramCall
call_of names p = called names p.callee p.values

abbrev pub names_after : List SetupName → Callee → List SetupName
names_after names (Maker name class class_name) = names ++ record { name = name; class = class } ∷ []
names_after names (Method name method method_name result) = names
