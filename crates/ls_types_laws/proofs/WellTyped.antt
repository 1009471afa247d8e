-- Elaborated files and the programs that are read for them are well typed.
use Rattle.std.proofs.Common.{◌≡◌, Ok, Some}
use Rattle.ls_checked.specs.CheckedProgram.{Program}
use Rattle.ls_types_judgement.specs.WellTyped.{IsWellTyped, IsWellTypedProgram}
use Rattle.ls_types_elaboration.specs.Trees.{Text, File}
use Rattle.ls_types_elaboration.specs.Elaboration.{ElaboratedFile, elaborated}
use Rattle.ls_types_programs.specs.ThreadPrograms.{program_of}
use Rattle.ls_types_laws.proofs.Whole.{IsTypedOutcome, typed_when}
use Rattle.ls_types_laws.proofs.Constants.{of_file, of_program}
use Rattle.ls_types_laws.proofs.Ends.{elaborated_loops, elaborated_ends}
use Rattle.ls_types_laws.proofs.Limited.{ranged_when}
use Rattle.ls_types_laws.proofs.ProgramSteps.{program_reads}
use Rattle.ls_types_laws.proofs.ProgramLimits.{program_ranged}

-- the law: an elaborated file is well typed
pub well_typed : (f : File) (o : ElaboratedFile) → elaborated f ≡ Ok o → IsWellTyped o.file
well_typed f o e =
    let t : IsTypedOutcome o = typed_when f o e in
    record {
      typed = t.typed;
      classes = t.classes;
      constants = of_file o.file t.typed t.no_pairs;
      loops = elaborated_loops f o e;
      ends = elaborated_ends f o e;
      limits = ranged_when f o e;
    }

-- the law: a program that is read is well typed
pub well_typed_program : (f : File) (o : ElaboratedFile) (text : Text) (p : Program) →
    elaborated f ≡ Ok o →
    program_of o text ≡ Some p →
    IsWellTypedProgram o.file p
well_typed_program f o text p e reads =
    let t : IsTypedOutcome o = typed_when f o e in
    record {
      typed = program_reads o t text p reads;
      constants = of_program o.file p (program_reads o t text p reads);
      limits = program_ranged o text p reads;
    }
