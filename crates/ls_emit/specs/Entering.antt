-- What the code of a file owes its threads. If a thread enters a method by an instruction, at any depth, it asks what
-- the method's course asks. After the method's value or throw it goes on as its caller does. It is never stuck. Nor is
-- it silent for longer than the words of the frames that there may be.
use Rattle.std.specs.Prelude.{◌≡◌, ◌≢◌, ◌≤◌, ◌<◌, ℕ, ◌+◌, ◌*◌, List, ◌∷◌, ◌++◌, length, reverse, Option, Some, None}
use Rattle.std.specs.Prelude.{slice_get}
use Rattle.ls_events.specs.declared.kind.Kind.{Kind}
use Rattle.ls_code.specs.Code.{Code}
use Rattle.ls_code.specs.Thread.{Thread, with_top}
use Rattle.ls_code.specs.Moves.{pushed}
use Rattle.ls_code.specs.Throws.{thrown}
use Rattle.ls_code.specs.Steps.{thrown_thread}
use Rattle.ls_code.specs.Fed.{Fed, carry_on}
use Rattle.ls_code.specs.Reading.{fed, resume, quiet}
use Rattle.ls_code.specs.Fed as fed
use Rattle.ls_code.specs.declared.instruction.Instruction.TheVariants as op
use Rattle.ls_code.specs.declared.step.Mode.TheVariants as mode
use Rattle.ls_lowered.specs.LoweredTree.{Method, File}
use Rattle.ls_lowered.specs.Course.{Answers, Told, Asked, Gave, Raised, Lost}
use Rattle.ls_lowered.specs.Methods.{invoke}
use Rattle.ls_emit.specs.Units.{CodeUnit, LieIn}

-- what a course tells of a fed thread; after a value the caller goes on with `go`, after a throw with `h`
abbrev pub told_by : Told → (ℕ → Answers → Fed) → (Kind → Answers → Fed) → Fed
told_by (Asked action) go h = fed.Asked action
told_by (Gave word rest) go h = go word rest
told_by (Raised kind rest) go h = h kind rest
told_by Lost go h = fed.Lost

-- a fed thread, or one that is stuck
abbrev pub fed_from : Code → ℕ → ℕ → ℕ → Option Thread → Answers → Fed
fed_from c number bound n t answers = resume c number bound answers (carry_on t (quiet c number n))

-- the thread after its entering instruction, with the word that the method gave on these operands
abbrev pub given_back : Thread → List ℕ → ℕ → Thread
given_back t stack word = with_top t (pushed (record t.top { operands = stack }) word)

-- the thread after its innermost frame has thrown, with these operands
abbrev pub thrown_in : Code → Thread → List ℕ → Kind → Option Thread
thrown_in c t operands kind = thrown_thread t (thrown c.handlers kind (record t.top { operands = operands } ∷ t.below))

-- A thread at an instruction that enters method m. `this` and the arguments are on top of these operands. `depth` more
-- methods may be entered, one in the other.
pub record IsEntering (file : File) (c : Code) (m : ℕ) (this : ℕ) (values stack : List ℕ) (depth : ℕ) (t : Thread) :
    Type 0 where
  pub running : t.mode ≡ mode.Running
  pub enters : slice_get c.instructions t.top.counter ≡ Some (op.Enter m)
  pub operands : t.top.operands ≡ reverse (this ∷ values) ++ stack
  pub room : length stack < t.top.need
  pub not_null : this ≢ 0
  pub allowed : length t.below + depth ≡ 64

abbrev pub TakesAll : Option Method → List ℕ → Type 0
TakesAll None values = ⊥
TakesAll (Some g) values = length values ≡ g.arguments

abbrev pub EntersAs : File → Code → ℕ → Type 0
EntersAs file c words =
    (number bound depth spare m this : ℕ) (values stack : List ℕ) (t : Thread) (answers : Answers)
    (go : ℕ → Answers → Fed) (h : Kind → Answers → Fed) →
    IsEntering file c m this values stack depth t → TakesAll (slice_get file m) (this ∷ values) →
    spare + depth * (words + 1) ≤ bound →
    ((n word : ℕ) (rest : Answers) → length rest ≤ length answers → spare ≤ n →
    fed c number bound n (given_back t stack word) rest ≡ go word rest) →
    ((n : ℕ) (operands : List ℕ) (kind : Kind) (rest : Answers) → length rest ≤ length answers → spare ≤ n →
    fed_from c number bound n (thrown_in c t operands kind) rest ≡ h kind rest) →
    (n : ℕ) → spare + 1 ≤ n → fed c number bound n t answers ≡ told_by (invoke file depth m (this ∷ values) answers) go
    h

-- the units of a file, in whatever code they lie
abbrev pub UnitsAsk : File → List CodeUnit → Type 0
UnitsAsk file units = (c : Code) (words : ℕ) → LieIn c words units → EntersAs file c words
