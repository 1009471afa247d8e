-- Words in which checked trees, programs and traces are written.
use Rattle.std.specs.Prelude.{ℕ, pos, negsuc, ◌-◌, true, false, List, [], ◌∷◌, map, Option, None}
use Rattle.ls_events.specs.declared.value.Value.{Value}
use Rattle.ls_events.specs.declared.value.Value.TheVariants as values
use Rattle.ls_events.specs.declared.value.ValueType.{ValueType}
use Rattle.ls_events.specs.declared.kind.Kind.{Kind}
use Rattle.ls_events.specs.declared.action.Action.{Action}
use Rattle.ls_events.specs.declared.action.Answer.{Answer}
use Rattle.ls_events.specs.declared.action.Answer.TheVariants.{Done as IsDone, Gives, Fails}
use Rattle.ls_checked.specs.CheckedTree.{Class, Method, Statement, Block, Statements, Done, Then}
use Rattle.ls_checked.specs.CheckedProgram.{Program, ProgramCall, Making, Calling}
use Rattle.ls_meaning.specs.Steps.{Entry}

abbrev pub int : ℕ → Value
int n = values.Int (pos n)

abbrev pub minus : ℕ → Value
minus n = values.Int (negsuc (n - 1))

abbrev pub yes : Value
yes = values.Boolean true

abbrev pub no : Value
no = values.Boolean false

abbrev pub null : Value
null = values.Reference 0

abbrev pub at : ℕ → Value
at n = values.Reference n

abbrev pub statements : List Statement → Statements
statements [] = Done
statements (s ∷ ss) = Then s (statements ss)

abbrev pub block : List Statement → Statement
block ss = Block (statements ss)

abbrev pub one_class : List ValueType → ℕ → Class
one_class fields constructor = record { fields = fields; constructor = constructor }

abbrev pub method : ℕ → ℕ → List ValueType → Option ValueType → Statement → Method
method class parameters slots result body =
    record { class = class; parameters = parameters; slots = slots; result = result; body = body }

abbrev pub making : ℕ → ℕ → List Value → ProgramCall
making name class arguments = Making name class [] arguments

abbrev pub calling : ℕ → ℕ → List Value → ProgramCall
calling name method arguments = Calling name method [] None arguments

-- a program with setup names of these classes
abbrev pub program : List ℕ → List (List ProgramCall) → Program
program classes threads = record {
  names = map (λ c. record { name = []; class = c }) classes;
  threads = map (λ calls. record { name = []; calls = calls }) threads;
}

-- one line of a trace
abbrev pub line : ℕ → Action Value → Answer Value → Entry Value
line thread action answer = record { thread = thread; action = action; answer = answer }

abbrev pub done : Answer Value
done = IsDone

abbrev pub gives : Value → Answer Value
gives v = Gives v

abbrev pub fails : Kind → Answer Value
fails kind = Fails kind
