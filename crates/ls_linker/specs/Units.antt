-- Units of any compiler, in place of those that this one emits.
use Rattle.std.specs.Prelude.{◌≡◌, ◌≤◌, ℕ, List, length, Some, All, slice_get}
use Rattle.ls_checked.specs.CheckedTree.{File}
use Rattle.ls_checked.specs.CheckedProgram.{Program}
use Rattle.ls_meaning.specs.Constants.{FileHasConstants, ProgramHasConstants}
use Rattle.ls_lowered.specs.LoweredTree as low
use Rattle.ls_types_judgement.specs.Typing.{IsTypedFile}
use Rattle.ls_types_judgement.specs.Classes.{HasItsClasses}
use Rattle.ls_types_judgement.specs.Programs.{IsTypedProgram}
use Rattle.ls_emit.specs.Units.{CodeUnit}
use Rattle.ls_emit.specs.Entering.{UnitsAsk}
use Rattle.ls_preservation.specs.Same.{Same}
use Rattle.ls_preservation.specs.Threads.{Asks}
use Rattle.ls_linker.specs.Linked.{linked}
use Rattle.ls_linker.specs.Laws.{LoweredAsks}

-- each method has a unit of its number, which takes as many arguments
abbrev pub TakeAsMany : low.File → List CodeUnit → Type 0
TakeAsMany methods units =
    (n : ℕ) (m : low.Method) → slice_get methods n ≡ Some m →
    (u : CodeUnit) × (slice_get units n ≡ Some u) × (u.arguments ≡ m.arguments)

-- what units owe the methods that they stand for
pub record StandFor (methods : low.File) (units : List CodeUnit) : Type 0 where
  pub takes : TakeAsMany methods units
  -- no handler row reaches beyond its unit
  pub rows : All (λ u. All (λ r. r.to ≤ length u.instructions) u.handlers) units
  -- Each unit, entered in whatever code the units lie, asks what its method asks, and answers or throws what its
  -- method does. In each frame it is silent for at most one step more than the units have instructions.
  pub ask : UnitsAsk methods units

-- If the methods ask what the file asks, units that stand for these methods are linked to code that asks what the
-- source asks.
abbrev pub AnyUnitsAsk : Type 0
AnyUnitsAsk =
    (file : File) (program : Program) (lowered : low.File) (units : List CodeUnit) → LoweredAsks file lowered →
    StandFor lowered units → IsTypedProgram file program →
    Asks file program (linked file program units)

-- So that code is the same as the source.
abbrev pub AnyUnitsAreSame : Type 0
AnyUnitsAreSame =
    (file : File) (program : Program) (lowered : low.File) (units : List CodeUnit) → LoweredAsks file lowered →
    StandFor lowered units → IsTypedFile file → HasItsClasses file →
    IsTypedProgram file program → FileHasConstants file → ProgramHasConstants program →
    Same file program (linked file program units)
