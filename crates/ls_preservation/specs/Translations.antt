-- From schedules of the machine to schedules of the source, and back.
use Rattle.std.specs.Prelude.{ℕ, zero, suc, ◌*◌, List, [], ◌∷◌, ◌++◌, map, length, Bool, true, false, slice_get}
use Rattle.ls_events.specs.declared.value.Value.{Value}
use Rattle.ls_checked.specs.CheckedTree.{File}
use Rattle.ls_checked.specs.CheckedProgram.{Program}
use Rattle.ls_meaning.specs.Steps.{Entry, Stepped, Same, Moved, Acted, after}
use Rattle.ls_meaning.specs.Threads.{next}
use Rattle.ls_meaning.specs.Runs.{State, start, answers_of, has_ended, source_step}
use Rattle.ls_code.specs.Code.{Code}
use Rattle.ls_code.specs.Machine.{Machine, loaded, setup_ended, machine_step, machine_run, machine_trace}
use Rattle.ls_code.specs.declared.step.Did.{Did}
use Rattle.ls_code.specs.declared.step.Did.TheVariants as did

-- one entry for each acting instruction, in order
abbrev pub to_source : Code → ℕ → List ℕ → List ℕ
to_source code cells schedule = map (λ e. e.thread) (machine_trace (loaded code cells) schedule)

-- The most silent steps of a thread in a row. The steps by which it waits for a lock don't count, since they may have
-- no end.
abbrev pub most_silent : Code → ℕ
most_silent code = 64 * length code.instructions

-- what comes after a silent step
abbrev pub if_silent : Did → List ℕ → List ℕ
if_silent did.Silent rest = rest
if_silent (did.Acted action answer) rest = []
if_silent did.Waits rest = []
if_silent did.Idle rest = []
if_silent did.Stopped rest = []

-- a thread's steps up to and with its first step that isn't silent, after at most n silent steps
abbrev pub until_acts : ℕ → Machine → ℕ → List ℕ
until_acts zero m thread = thread ∷ []
until_acts (suc n) m thread = thread ∷ if_silent (machine_step m thread).did
    (until_acts n (machine_step m thread).machine thread)

abbrev pub unless : Bool → List ℕ → List ℕ
unless true rest = []
unless false rest = rest

-- the setup's steps to its end, at most n steps
abbrev pub until_over : ℕ → Machine → List ℕ
until_over zero m = []
until_over (suc n) m = unless (setup_ended (slice_get m.threads 0)) (0 ∷ until_over n (machine_step m 0).machine)

-- the same, if the setup's source has ended
abbrev pub setup_end : ℕ → Machine → Bool → List ℕ
setup_end n m false = []
setup_end n m true = until_over n m

abbrev pub has_setup_ended : File → Program → State → Bool
has_setup_ended file program s = has_ended (next file program 0 (answers_of s 0))

-- the machine's steps for one step of the source: none for a step that changes nothing
abbrev pub steps_for : File → Program → ℕ → Machine → ℕ → Stepped State (Entry Value) → List ℕ
steps_for file program n m thread Same = []
steps_for file program n m thread (Moved s) = []
steps_for file program n m thread (Acted s e) =
    until_acts n m thread ++ setup_end n (machine_run m (until_acts n m thread)) (has_setup_ended file program s)

-- the machine's steps for a schedule of the source, from states that belong together
abbrev pub steps_from : File → Program → ℕ → State → Machine → List ℕ → List ℕ
steps_from file program n s m [] = []
steps_from file program n s m (t ∷ ts) =
    steps_for file program n m t (source_step file program s t)
    ++ steps_from file program n (after s (source_step file program s t))
    (machine_run m (steps_for file program n m t (source_step file program s t))) ts

-- the same; if the setup's source has ended already, the setup of the machine first comes to its end
abbrev pub steps_all : File → Program → ℕ → State → Machine → List ℕ → List ℕ
steps_all file program n s m schedule =
    setup_end n m (has_setup_ended file program s)
    ++ steps_from file program n s (machine_run m (setup_end n m (has_setup_ended file program s))) schedule

abbrev pub to_machine : File → Program → Code → ℕ → List ℕ → List ℕ
to_machine file program code cells schedule = steps_all file program (most_silent code) (start program)
    (loaded code cells) schedule
