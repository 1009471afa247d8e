-- What the classes of a text declare: rules on the declarations themselves (JLS 7.6, 8.1, 8.3, 8.4, 8.8).
use Rattle.std.specs.Prelude.{ℕ, ◌+◌, nat_lt, Bool, not, ◌||◌, List, [], ◌∷◌, ◌++◌, length, Option, Some, None, Ok}
use Rattle.std.specs.Prelude.{codes, bytes_eq, is_some}
use Rattle.ls_events.specs.declared.value.ValueType.{ValueType}
use Rattle.ls_types_elaboration.specs.declared.rule.Rule.TheVariants.{TwiceDeclared, UnknownType, ReservedClass, Limit}
use Rattle.ls_types_elaboration.specs.Trees.{Text, Name, Declarator, Declaration, Parameter, ClassTree}
use Rattle.ls_types_elaboration.specs.Trees as parsed
use Rattle.ls_types_elaboration.specs.Elaborated.{Elaborated, with_ok, unless_broken, each}
use Rattle.ls_types_elaboration.specs.Known.{FieldSign, MethodSign, ClassSign, number_of, field_named, method_named}
use Rattle.ls_types_elaboration.specs.Known.{type_of, result_of}
use Rattle.ls_types_elaboration.specs.Scopes.{most_slots}

-- the classes that are there already
abbrev pub is_reserved : Text → Bool
is_reserved name =
    bytes_eq name (codes "Integer") || bytes_eq name (codes "Lock")
    || bytes_eq name (codes "ReentrantLock") || bytes_eq name (codes "AtomicMarkableReference")

abbrev pub most_classes : ℕ
most_classes = 64

abbrev pub most_fields : ℕ
most_fields = 64

-- methods and constructors of the file, default ones too
abbrev pub most_methods : ℕ
most_methods = 512

-- refused at the first name for which there is no room
abbrev pub with_room : {A : Type 0} → ℕ → ℕ → Name → Elaborated A → Elaborated A
with_room count most n go = unless_broken (not (nat_lt count most)) Limit n.span go

-- the names of the classes
abbrev pub one_name : List Text → ClassTree → Elaborated (List Text)
one_name before c =
    unless_broken (is_reserved c.name.text) ReservedClass c.name.span (
    unless_broken (is_some (number_of before c.name.text)) TwiceDeclared c.name.span (
    with_room (length before) most_classes c.name (Ok (before ++ c.name.text ∷ []))))

-- the types of parameters, which have room beside `this`
abbrev pub one_type : List Text → List ValueType → Parameter → Elaborated (List ValueType)
one_type names before p = with_ok (type_of names p.type_name) (λ t. Ok (before ++ t ∷ []))

abbrev pub parameter_types : List Text → Name → List Parameter → Elaborated (List ValueType)
parameter_types names n ps = with_room (length ps) most_slots n (each (one_type names) [] ps)

-- what a class has declared so far, and the number of the next method or constructor
pub record Met : Type 0 where
  pub fields : List FieldSign
  pub methods : List MethodSign
  pub constructor : Option ℕ
  pub parameters : List ValueType
  pub next : ℕ

abbrev pub field_met : ValueType → Met → Declarator → Elaborated Met
field_met t met d =
    unless_broken (is_some (field_named met.fields d.name.text)) TwiceDeclared d.name.span (
    with_room (length met.fields) most_fields d.name (
    Ok (record {
      fields = met.fields ++ record { name = d.name.text; type = t } ∷ [];
      methods = met.methods;
      constructor = met.constructor;
      parameters = met.parameters;
      next = met.next;
    })))

abbrev pub fields_met : List Text → Met → Declaration → Elaborated Met
fields_met names met d = with_ok (type_of names d.type_name) (λ t. each (field_met t) met (d.first ∷ d.more))

-- a method (JLS 8.4.2; there is no overloading)
abbrev pub method_met : Met → Name → List ValueType → Option ValueType → Elaborated Met
method_met met n parameters result =
    unless_broken (is_some (method_named met.methods n.text)) TwiceDeclared n.span (
    with_room met.next most_methods n (
    Ok (record {
      fields = met.fields;
      methods = met.methods ++ record { name = n.text; number = met.next; parameters = parameters; result = result } ∷
          [];
      constructor = met.constructor;
      parameters = met.parameters;
      next = met.next + 1;
    })))

-- a constructor has the name of its class (JLS 8.8)
abbrev pub constructor_met : Text → Met → Name → List ValueType → Elaborated Met
constructor_met class met n parameters =
    unless_broken (not (bytes_eq n.text class)) UnknownType n.span (
    unless_broken (is_some met.constructor) TwiceDeclared n.span (
    with_room met.next most_methods n (
    Ok (record {
      fields = met.fields;
      methods = met.methods;
      constructor = Some met.next;
      parameters = parameters;
      next = met.next + 1;
    }))))

abbrev pub member_met : List Text → Text → Met → parsed.Member → Elaborated Met
member_met names class met (parsed.Fields d) = fields_met names met d
member_met names class met (parsed.Method sync result n ps body) =
    with_ok (result_of names result) (λ r. with_ok (parameter_types names n ps) (λ ts. method_met met n ts r))
member_met names class met (parsed.Constructor n ps body) =
    with_ok (parameter_types names n ps) (λ ts. constructor_met class met n ts)

-- the classes so far, and the number of the next method or constructor
pub record Classes : Type 0 where
  pub signs : List ClassSign
  pub next : ℕ

abbrev pub with_class : Classes → Met → ℕ → List ValueType → ℕ → Elaborated Classes
with_class classes met constructor parameters next =
    Ok (record {
      signs = classes.signs ++ record {
        fields = met.fields;
        methods = met.methods;
        constructor = constructor;
        parameters = parameters;
      } ∷ [];
      next = next;
    })

-- a class without a constructor has an empty one, with the number after those of its methods (JLS 8.8.9)
abbrev pub class_met : Classes → Name → Met → Option ℕ → Elaborated Classes
class_met classes n met (Some k) = with_class classes met k met.parameters met.next
class_met classes n met None =
    with_room met.next most_methods n (with_class classes met met.next [] (met.next + 1))

abbrev pub nothing_met : ℕ → Met
nothing_met next = record { fields = []; methods = []; constructor = None; parameters = []; next = next }

abbrev pub one_class : List Text → Classes → ClassTree → Elaborated Classes
one_class names classes c =
    with_ok (each (member_met names c.name.text) (nothing_met classes.next) c.members) (λ met.
    class_met classes c.name met met.constructor)

abbrev pub class_names : List ClassTree → Elaborated (List Text)
class_names classes = each one_name [] classes

abbrev pub class_signs : List Text → List ClassTree → Elaborated Classes
class_signs names classes = each (one_class names) (record { signs = []; next = 0 }) classes
