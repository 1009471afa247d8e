-- If the source of a thread acts next, the machine's thread acts in time.
use Rattle.std.specs.Prelude.{◌≡◌, ℕ, zero, suc, ◌+◌, ◌<◌, Bool, true, false, not, nat_le, List, length}
use Rattle.ls_checked.specs.CheckedTree.{File}
use Rattle.ls_checked.specs.CheckedProgram.{Program}
use Rattle.ls_meaning.specs.Runs.{State, Step, step, source_run}
use Rattle.ls_meaning.specs.declared.step.Did.{Did as SourceDid}
use Rattle.ls_meaning.specs.declared.step.Did.TheVariants as source_did
use Rattle.ls_code.specs.Code.{Code}
use Rattle.ls_code.specs.Machine.{Machine, loaded, machine_step, machine_run}
use Rattle.ls_code.specs.declared.step.Did.{Did}
use Rattle.ls_code.specs.declared.step.Did.TheVariants as did
use Rattle.ls_preservation.specs.Same.{IsCells, total}
use Rattle.ls_preservation.specs.Translations.{most_silent, to_source}
use Rattle.ls_preservation.specs.InTime.{IsOpen}

-- there is room in this many cells for the names and for all that the source has made
abbrev pub has_room : Program → ℕ → State → Bool
has_room program cells s = nat_le (length program.names + total s.store.things) cells

-- a step that acts; or, if there is no room, a step that stops the machine
abbrev pub acts_or_stops : Bool → Did → Bool
acts_or_stops room (did.Acted action answer) = true
acts_or_stops room did.Stopped = not room
acts_or_stops room did.Silent = false
acts_or_stops room did.Waits = false
acts_or_stops room did.Idle = false

-- what a step did; if it was silent, what comes after it
abbrev pub or_later : Did → Did → Did
or_later did.Silent later = later
or_later (did.Acted action answer) later = did.Acted action answer
or_later did.Stopped later = did.Stopped
or_later did.Waits later = did.Waits
or_later did.Idle later = did.Idle

-- the first step of a thread that isn't silent, among n steps of its own
abbrev pub first_did : ℕ → Machine → ℕ → Did
first_did zero m t = did.Silent
first_did (suc n) m t = or_later (machine_step m t).did (first_did n (machine_step m t).machine t)

-- What that first step must be. It depends on what the source's next step of the thread does, and on whether there is
-- room after it.
abbrev pub ActsAs : Bool → SourceDid → Did → Type 0
ActsAs room (source_did.Acted action answer) first = acts_or_stops room first ≡ true
ActsAs room source_did.Waits first = Unit {0}
ActsAs room source_did.Idle first = Unit {0}

abbrev pub StepsAs : Program → ℕ → Step → Did → Type 0
StepsAs program cells next first = ActsAs (has_room program cells next.after) next.did first

-- Take any schedule, in a machine with any number of cells. If the source's next step of a thread acts, the machine's
-- thread makes at most `most_silent` silent steps, and then acts. It stops the machine only if there is no room for
-- what the source's step makes. Not claimed: anything while the source waits for a lock. How long it waits depends on
-- the other threads.
abbrev pub ActsInTime : File → Program → Code → Type 0
ActsInTime file program code =
    (cells : ℕ) → IsCells code cells → (schedule : List ℕ) (t : ℕ) → t < length program.threads →
    IsOpen (machine_run (loaded code cells) schedule) t →
    StepsAs program cells (step file program (source_run file program (to_source code cells schedule)) t)
    (first_did (most_silent code + 1) (machine_run (loaded code cells) schedule) t)
