-- What a fault says of a text that is no program of a file, and the place of the fault.
use Rattle.ls_checked.specs.CheckedProgram.{Program}
use Rattle.ls_types_elaboration.specs.Trees.{Text}
use Rattle.ls_types_elaboration.specs.Elaboration.{ElaboratedFile}
use Rattle.ls_types_programs.specs.Faults.{IsUnknown, IsReference}
use Rattle.ls_types_programs.specs.Programs.{IsTextOf}
use Rattle.ls_types_programs.specs.Refusals.{ShowsAt, IsBadAt, PassesLimit}
use Rattle.ls_types_checked.specs.declared.fault.ProgramFault.{ProgramFault}
use Rattle.ls_types_checked.specs.declared.fault.ProgramFault.TheVariants as faults

-- each refusal comes only if its fault is at its place; "out of memory" may come at any time
abbrev pub Stands : ElaboratedFile → Text → ProgramFault → Type 0
Stands o text faults.Memory = Unit {0}
Stands o text (faults.BadProgram at) = IsBadAt o text at
Stands o text (faults.UnknownThing at) = ShowsAt (IsUnknown o) text at
Stands o text (faults.ReferenceResult at) = ShowsAt (IsReference o) text at
Stands o text faults.ProgramLimit = PassesLimit o text

-- what a fault says; if it is "out of memory", nothing
abbrev pub Says : ProgramFault → Type 0 → Type 0
Says faults.Memory claim = Unit {0}
Says _ claim = claim

-- the text is no program of the file, and the fault is at its place
pub record IsNoProgram (o : ElaboratedFile) (text : Text) (f : ProgramFault) : Type 0 where
  pub none : Says f ((p : Program) → IsTextOf o p text → ⊥)
  pub stands : Stands o text f
