-- Blocks as they are checked: their statements, and the locals in scope (JLS 6.3, 6.4, 14.4).
use Rattle.std.specs.Prelude.{ℕ, ◌+◌, pos, nat_lt, false, not, List, [], ◌∷◌, ◌++◌, length, Option, Some, None, Ok}
use Rattle.std.specs.Prelude.{is_some}
use Rattle.ls_lexer.specs.declared.token.Span.{Span}
use Rattle.ls_events.specs.declared.value.Value.{Value}
use Rattle.ls_events.specs.declared.value.Value.TheVariants as values
use Rattle.ls_events.specs.declared.value.ValueType.{ValueType}
use Rattle.ls_events.specs.declared.value.ValueType.TheVariants as types
use Rattle.ls_checked.specs.CheckedTree as checked
use Rattle.ls_types_elaboration.specs.declared.rule.Rule.TheVariants.{TwiceDeclared, Limit}
use Rattle.ls_types_elaboration.specs.Trees.{Text, Name, Declarator, Declaration}
use Rattle.ls_types_elaboration.specs.Trees as parsed
use Rattle.ls_types_elaboration.specs.Elaborated.{Elaborated, with_ok, unless_broken, each}
use Rattle.ls_types_elaboration.specs.Known.{Known, Local, local_named, type_of}
use Rattle.ls_types_elaboration.specs.TypedExpressions.{fitting}

-- what is known in a body: the declarations of the file, what the method answers, and the place of its name
pub record Body : Type 0 where
  pub known : Known
  pub result : Option ValueType
  pub span : Span

-- the types of a method's slots so far, and how many slots have names or are `this`; the other slots hold objects
-- whose monitors `synchronized` locks
pub record Slots : Type 0 where
  pub types : List ValueType
  pub named : ℕ

abbrev pub with_named : Slots → ValueType → Slots
with_named slots t = record { types = slots.types ++ t ∷ []; named = slots.named + 1 }

abbrev pub with_unnamed : Slots → ValueType → Slots
with_unnamed slots t = record { types = slots.types ++ t ∷ []; named = slots.named }

-- the statements of a block so far, the locals in scope after them, and the method's slots so far
pub record Scope : Type 0 where
  pub statements : List checked.Statement
  pub locals : List Local
  pub slots : Slots

-- `this`, parameters and locals of a method
abbrev pub most_slots : ℕ
most_slots = 128

-- the start value of a variable (JLS 4.12.5); the profile gives locals a start value too
abbrev pub start_of : ValueType → Value
start_of types.Int = values.Int (pos 0)
start_of types.Boolean = values.Boolean false
start_of _ = values.Reference 0

abbrev pub with_statement : Scope → checked.Statement → Scope
with_statement scope s = record { statements = scope.statements ++ s ∷ []; locals = scope.locals; slots = scope.slots }

-- one more variable in scope, in the next slot
abbrev pub with_variable : Scope → Text → ValueType → Scope
with_variable scope name t = record {
  statements = scope.statements;
  locals = scope.locals ++ record { name = name; type = t; slot = length scope.slots.types } ∷ [];
  slots = with_named scope.slots t;
}

-- a name that no variable in scope has, and room for it; a method with too many slots is refused at its name
abbrev pub may_declare : {A : Type 0} → Span → Scope → Name → Elaborated A → Elaborated A
may_declare method scope n go =
    unless_broken (is_some (local_named scope.locals n.text)) TwiceDeclared n.span (
    unless_broken (not (nat_lt scope.slots.named most_slots)) Limit method go)

-- the initialiser, if there is one, as an assignment (JLS 14.4.2)
abbrev pub initialised : Known → ValueType → ℕ → Scope → Option parsed.Expression → Elaborated Scope
initialised known t slot scope None = Ok scope
initialised known t slot scope (Some e) =
    with_ok (fitting known scope.locals t e) (λ v. Ok (with_statement scope (checked.SetSlot slot v)))

-- a local is in scope from its own initialiser on (JLS 6.3); it gets its start value, then the value of its
-- initialiser
abbrev pub declared : Body → ValueType → Scope → Declarator → Elaborated Scope
declared body t scope d =
    may_declare body.span scope d.name (
    initialised body.known t (length scope.slots.types)
    (with_statement (with_variable scope d.name.text t) (checked.SetSlot (length scope.slots.types)
    (checked.Literal (start_of t))))
    d.value)

abbrev pub declaration : Body → Scope → Declaration → Elaborated Scope
declaration body scope d =
    with_ok (type_of body.known.names d.type_name) (λ t. each (declared body t) scope (d.first ∷ d.more))
