-- What the execution of a statement may end with, whatever its calls do, its locals hold and its actions are answered.
use Rattle.std.specs.Prelude.{ℕ, ◌≡◌, ◌<◌, Bool, true, List}
use Rattle.ls_events.specs.declared.value.Value.{Value}
use Rattle.ls_checked.specs.CheckedTree.{Class, Statement}
use Rattle.ls_meaning.specs.declared.completion.Completion.{Completion}
use Rattle.ls_meaning.specs.declared.completion.Completion.TheVariants.{Normal, Broke, Continued, Returned, Threw}
use Rattle.ls_meaning.specs.Course.{Answers}
use Rattle.ls_meaning.specs.Expressions.{Calls}
use Rattle.ls_meaning.specs.Statements.{Executed, AsksFor, Completes, execute}
use Rattle.ls_types_judgement.specs.Completion.{can_complete, breaks}

-- if an execution is complete, its completion is so; an execution that asks for an action isn't complete
abbrev pub Ends : (Completion Value → Type 0) → Executed → Type 0
Ends P (AsksFor action sort) = Unit {0}
Ends P (Completes completion locals rest) = P completion

abbrev pub AlwaysEnds : (Completion Value → Type 0) → Statement → Type 0
AlwaysEnds P s =
    (classes : List Class) (calls : Calls) (locals : List Value) (answers : Answers) →
    Ends P (execute classes calls s locals answers)

-- whether the rules of typing allow a statement a completion
abbrev pub allows : Statement → Completion Value → Bool
allows s Normal = can_complete s
allows s (Broke n) = breaks n s
allows s (Continued n) = true
allows s (Returned v) = true
allows s (Threw kind) = true

abbrev pub Allows : Statement → Completion Value → Type 0
Allows s completion = allows s completion ≡ true

-- a jump to one of the n loops around a statement, or no jump
abbrev pub IsIn : ℕ → Completion Value → Type 0
IsIn n Normal = Unit {0}
IsIn n (Broke m) = m < n
IsIn n (Continued m) = m < n
IsIn n (Returned v) = Unit {0}
IsIn n (Threw kind) = Unit {0}
