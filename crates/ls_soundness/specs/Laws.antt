-- What the statement keeps of its parts.
use Rattle.std.specs.Prelude.{◌≡◌, ℕ, ◌+◌, List, length, Option, Some, slice_get}
use Rattle.ls_events.specs.declared.value.ValueType.{ValueType}
use Rattle.ls_events.specs.declared.value.ValueType.TheVariants as types
use Rattle.ls_checked.specs.CheckedTree.{File, Method, Expression, Statement}
use Rattle.ls_meaning.specs.declared.sort.Sort.TheVariants.{ValueOf}
use Rattle.ls_types_judgement.specs.Completion.{can_complete, breaks}
use Rattle.ls_types_judgement.specs.Leaving.{JumpsInLoops}
use Rattle.ls_types_judgement.specs.Typing.{IsTyped, IsTypedStatement}
use Rattle.ls_refs.specs.Temporaries.{temporaries, locals_of}
use Rattle.ls_types_elaboration.specs.Monitors.{synchronized}

abbrev pub CompletesAsItsBlock : Type 0
CompletesAsItsBlock = (slot class : ℕ) (target : Expression) (body : Statement) →
    can_complete (synchronized slot class target body) ≡ can_complete body

abbrev pub BreaksAsItsBlock : Type 0
BreaksAsItsBlock = (slot class n : ℕ) (target : Expression) (body : Statement) →
    breaks n (synchronized slot class target body) ≡ breaks n body

abbrev pub JumpsAsItsBlock : Type 0
JumpsAsItsBlock = (slot class n : ℕ) (target : Expression) (body : Statement) → JumpsInLoops n body →
    JumpsInLoops n (synchronized slot class target body)

-- the locals that it takes, beside those of its expression and its block: its slot, and two for its `try`
abbrev pub TakesThreeMore : Type 0
TakesThreeMore =
    (m : Method) (slot class : ℕ) (target : Expression) (slots : List ValueType) →
    length slots ≡ length m.slots + 1 →
    locals_of (record m { slots = slots; body = synchronized slot class target m.body }) ≡ locals_of m + temporaries
    target + 3

abbrev pub IsTypedByItsParts : Type 0
IsTypedByItsParts =
    (file : File) (slots : List ValueType) (result : Option ValueType) (slot class : ℕ) (target : Expression)
    (body : Statement) →
    slice_get slots slot ≡ Some (types.Class class) →
    IsTyped file slots (ValueOf (types.Class class)) target → IsTypedStatement file slots result body →
    IsTypedStatement file slots result (synchronized slot class target body)
