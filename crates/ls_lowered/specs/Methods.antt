-- The courses of calls.
use Rattle.std.specs.Prelude.{ℕ, zero, suc, List, [], ◌∷◌, ◌++◌, replicate, Option, Some, None, slice_get}
use Rattle.ls_events.specs.declared.kind.Kind.TheVariants.{StackOverflow}
use Rattle.ls_events.specs.declared.action.Action.{Action}
use Rattle.ls_events.specs.declared.action.Action.TheVariants.{Enter}
use Rattle.ls_lowered.specs.LoweredTree.{Method, File}
use Rattle.ls_lowered.specs.Course.{Answers, Course, Asks, Ends, Stuck, Told, Asked, Gave, Raised, Lost, Calls}
use Rattle.ls_lowered.specs.Statements.{Completion, Normal, Returned, Threw, Left, execute}

-- what a body's completion gives its caller; a body without a value gives word 0
abbrev pub given : Completion → Answers → Told
given Normal q = Gave 0 q
given (Returned w) q = Gave w q
given (Threw kind) q = Raised kind q
given (Left n) q = Gave 0 q

-- what a course tells
abbrev pub told : {A : Type 0} → Course A → (A → List ℕ → Answers → Told) → Told
told (Asks action) go = Asked action
told (Ends end ls q) go = go end ls q
told Stuck go = Lost

-- a method's body, with `this` and the arguments; the further locals are 0
abbrev pub run_body : Calls → Option Method → List ℕ → Answers → Told
run_body calls None values q = Lost
run_body calls (Some m) values q = told (execute calls m.body (values ++ replicate m.locals 0) q)
    (λ end ls q. given end q)

-- entering is an action of its own
abbrev pub enter : Action ℕ → Answers → (Answers → Told) → Told
enter action [] go = Asked action
enter action (answer ∷ q) go = go q

-- a call, if `depth` calls more may be entered, one in the other; at depth 0 it throws instead
unfoldable pub invoke : File → ℕ → Calls
invoke file zero m values q = Raised StackOverflow q
invoke file (suc depth) m values q = enter (Enter m) q (run_body (invoke file depth) (slice_get file m) values)
