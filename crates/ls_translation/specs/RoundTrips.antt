-- What is translated, and translated back.
use Rattle.std.specs.Prelude.{◌≡◌, ℕ, List, map}
use Rattle.ls_checked.specs.CheckedTree.{File}
use Rattle.ls_checked.specs.CheckedProgram.{Program}
use Rattle.ls_meaning.specs.Runs.{source_history, source_trace}
use Rattle.ls_code.specs.Code.{Code}
use Rattle.ls_code.specs.Machine.{machine_history}
use Rattle.ls_preservation.specs.Same.{Fits}
use Rattle.ls_preservation.specs.Translations.{to_source, to_machine}

-- the steps of a schedule of the source that act, in order
abbrev pub acting_steps : File → Program → List ℕ → List ℕ
acting_steps file program schedule = map (λ e. e.thread) (source_trace file program schedule)

pub record TranslatesBack (file : File) (program : Program) (code : Code) (cells : ℕ) : Type 0 where
  -- a schedule of the source that fits, translated to the machine and back: its acting steps are left, with the same
  -- history
  pub to_source_again : (schedule : List ℕ) → Fits file program cells schedule →
      to_source code cells (to_machine file program code cells schedule) ≡ acting_steps file program schedule
  pub source_history_again : (schedule : List ℕ) → Fits file program cells schedule →
      source_history file program (to_source code cells (to_machine file program code cells schedule)) ≡ source_history
      file program schedule
  -- a schedule of the machine, translated to the source and, where that fits, back: it has the same history, and
  -- translating once more changes nothing
  pub machine_history_again : (schedule : List ℕ) → Fits file program cells (to_source code cells schedule) →
      machine_history code cells (to_machine file program code cells (to_source code cells schedule)) ≡ machine_history
      code cells schedule
  pub once_more : (schedule : List ℕ) → Fits file program cells (to_source code cells schedule) →
      to_source code cells (to_machine file program code cells (to_source code cells schedule)) ≡ to_source code cells
      schedule
