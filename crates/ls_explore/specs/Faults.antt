-- Why the schedules of an image aren't explored.
use Rattle.ls_events.specs.Limits.{most_steps}
use Rattle.std.specs.Prelude.{◌≡◌, ◌<◌, ◌⊎◌, ℕ, length, replicate}
use Rattle.ls_checked.specs.CheckedTree.{File}
use Rattle.ls_checked.specs.CheckedProgram.{Program}
use Rattle.ls_code.specs.Code.{Code}
use Rattle.ls_preservation.specs.Translations.{to_machine}
use Rattle.ls_machine.specs.Room.{AreBadCells}
use Rattle.ls_machine.specs.declared.fault.LoadFault.{LoadFault}
use Rattle.ls_machine.specs.declared.fault.LoadFault.TheVariants as load
use Rattle.ls_translation.specs.Room.{IsFirstUnfit}
use Rattle.ls_translation.specs.declared.fault.TranslationFault.{TranslationFault}
use Rattle.ls_translation.specs.declared.fault.TranslationFault.TheVariants as translation
use Rattle.ls_explore.specs.Settings.{GoesOnFor, StopsAt}
use Rattle.ls_explore.specs.declared.fault.ExploreFault.{ExploreFault}
use Rattle.ls_explore.specs.declared.fault.ExploreFault.TheVariants.{Memory, BadCells, BadStates, SetupEndless}
use Rattle.ls_explore.specs.declared.fault.ExploreFault.TheVariants.{Setup}

-- the same refusal, of a machine that isn't loaded
abbrev pub fault_of_load : LoadFault → ExploreFault
fault_of_load load.BadCells = BadCells
fault_of_load load.Memory = Memory

-- the same refusal, of a setup that isn't translated
abbrev pub fault_of_translation : TranslationFault → ExploreFault
fault_of_translation translation.Memory = Memory
fault_of_translation translation.BadCells = BadCells
fault_of_translation (translation.DoesNotFit step) = Setup (translation.DoesNotFit step)
fault_of_translation translation.ResultTooLong = Setup translation.ResultTooLong

-- Why so many source steps of the setup aren't translated: what one of them makes has no room, or the machine would
-- take too many.
abbrev pub StaysSource : File → Program → Code → ℕ → ℕ → TranslationFault → Type 0
StaysSource file program code cells k translation.Memory = ⊥
StaysSource file program code cells k translation.BadCells = ⊥
StaysSource file program code cells k (translation.DoesNotFit step) = IsFirstUnfit file program cells (replicate k 0)
    step
StaysSource file program code cells k translation.ResultTooLong = most_steps < length
    (to_machine file program code cells (replicate k 0))

-- a refusal that comes after the numbers have been looked at, and the setup's source, which stops at so many steps
abbrev pub IsLate : File → Program → Code → ℕ → ℕ → ExploreFault → Type 0
IsLate file program code cells k Memory = Unit {0}
IsLate file program code cells k (Setup f) = StaysSource file program code cells k f
IsLate file program code cells k BadCells = AreBadCells code.names cells
IsLate file program code cells k BadStates = ⊥
IsLate file program code cells k SetupEndless = ⊥

abbrev pub AreBadStates : ℕ → Type 0
AreBadStates limit = (limit ≡ 0) ⊎ (16777216 < limit)

-- the machine can have so many cells, and so many states may be kept
pub record AreGood (code : Code) (count limit : ℕ) : Type 0 where
  pub cells : ¬ AreBadCells code.names count
  pub states : ¬ AreBadStates limit

-- Bad cells are named first, then a bad number of states. A fault of the setup's run on the machine comes only where
-- the setup's source stops and its run goes so; of other faults more is said elsewhere.
abbrev pub IsOfSetup : File → Program → Code → ℕ → ℕ → ExploreFault → Type 0
IsOfSetup file program code cells limit Memory = Unit {0}
IsOfSetup file program code cells limit (Setup f) = AreGood code cells limit × (k : ℕ) × StopsAt file program k
    × StaysSource file program code cells k f
IsOfSetup file program code cells limit BadCells = Unit {0}
IsOfSetup file program code cells limit BadStates = Unit {0}
IsOfSetup file program code cells limit SetupEndless = Unit {0}

-- the numbers are good, and the setup goes on after 100,000 source steps
pub record IsEndless (file : File) (program : Program) (code : Code) (count limit : ℕ) : Type 0 where
  pub good : AreGood code count limit
  pub goes : GoesOnFor file program 100001
