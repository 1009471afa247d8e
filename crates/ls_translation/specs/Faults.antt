-- What a refusal says.
use Rattle.ls_events.specs.Limits.{most_steps}
use Rattle.std.specs.Prelude.{ℕ, ◌<◌, List, length}
use Rattle.ls_machine.specs.declared.fault.LoadFault.{LoadFault}
use Rattle.ls_machine.specs.declared.fault.LoadFault.TheVariants as load
use Rattle.ls_translation.specs.declared.fault.TranslationFault.{TranslationFault}
use Rattle.ls_translation.specs.declared.fault.TranslationFault.TheVariants.{Memory, BadCells, DoesNotFit}
use Rattle.ls_translation.specs.declared.fault.TranslationFault.TheVariants.{ResultTooLong}

-- the same refusal, of a machine that isn't loaded
abbrev pub fault_of_load : LoadFault → TranslationFault
fault_of_load load.BadCells = BadCells
fault_of_load load.Memory = Memory

-- why these steps aren't answered: they are more than a schedule can have; being out of memory says nothing
abbrev pub CutsShort : List ℕ → TranslationFault → Type 0
CutsShort steps Memory = Unit {0}
CutsShort steps BadCells = ⊥
CutsShort steps (DoesNotFit step) = ⊥
CutsShort steps ResultTooLong = most_steps < length steps
