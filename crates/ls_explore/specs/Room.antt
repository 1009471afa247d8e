-- Room in the cells, as the source tells of it.
use Rattle.std.specs.Prelude.{◌≡◌, ◌++◌, ◌∷◌, [], ℕ, List, false}
use Rattle.ls_checked.specs.CheckedTree.{File}
use Rattle.ls_checked.specs.CheckedProgram.{Program}
use Rattle.ls_meaning.specs.Runs.{Step, source_run, step}
use Rattle.ls_meaning.specs.Still.{IsActing}
use Rattle.ls_code.specs.Code.{Code}
use Rattle.ls_code.specs.Machine.{loaded, machine_run}
use Rattle.ls_code.specs.declared.step.Did.TheVariants.{Stopped}
use Rattle.ls_preservation.specs.Same.{Fits, IsCells}
use Rattle.ls_preservation.specs.Translations.{to_source}
use Rattle.ls_preservation.specs.Acting.{first_did, has_room}

-- the acting steps of each schedule of instructions fit the cells
abbrev pub StaysWithin : File → Program → Code → Type 0
StaysWithin file program code =
    (cells : ℕ) → IsCells code cells → (steps : List ℕ) → Fits file program cells (to_source code cells steps)

-- After the schedule a thread's next step acts, and none acts for which there is room.
pub record IsFull (file : File) (program : Program) (cells : ℕ) (schedule : List ℕ) : Type 0 where
  pub thread : ℕ
  pub acts : IsActing (step file program (source_run file program schedule) thread).did
  pub lacks : (t : ℕ) → IsActing (step file program (source_run file program schedule) t).did →
      ¬ Fits file program cells (schedule ++ t ∷ [])

-- a step acts, and for what it makes there is no room
abbrev pub LacksRoom : Program → ℕ → Step → Type 0
LacksRoom program cells next = IsActing next.did × (has_room program cells next.after ≡ false)

-- Take any schedule after which the machine hasn't stopped. If the first step of a thread that isn't silent then stops
-- it, the source's next step of the thread acts, and for what it makes there is no room.
abbrev pub StopsForRoom : File → Program → Code → Type 0
StopsForRoom file program code =
    (cells : ℕ) → IsCells code cells → (steps : List ℕ) → (machine_run (loaded code cells) steps).stopped ≡ false →
    (n t : ℕ) → first_did n (machine_run (loaded code cells) steps) t ≡ Stopped →
    LacksRoom program cells (step file program (source_run file program (to_source code cells steps)) t)
