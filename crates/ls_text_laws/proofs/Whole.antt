-- Runs of a program that a text is, of a file that keeps every rule.
use Rattle.std.proofs.Common.{◌≡◌, ℕ, List, Ok, sym, subst}
use Rattle.ls_checked.specs.CheckedProgram.{Program}
use Rattle.ls_checked.specs.PlainProgram.{plain_program}
use Rattle.ls_code.specs.Code.{Code}
use Rattle.ls_code.specs.Machine.{machine_history}
use Rattle.ls_preservation.specs.Same.{IsCells, Same}
use Rattle.ls_preservation.specs.Translations.{to_source}
use Rattle.ls_types_elaboration.specs.Trees.{File, Text}
use Rattle.ls_types_elaboration.specs.Elaboration.{ElaboratedFile, elaborated}
use Rattle.ls_types_programs.specs.Programs.{IsTextOf}
use Rattle.ls_types_programs.proofs.Whole.{reads_what_is_spelled}
use Rattle.ls_types_judgement.specs.Programs.{IsTypedProgram}
use Rattle.ls_soundness.proofs.Threads.{is_sound}
use Rattle.ls_types_laws.proofs.Whole.{typed_when}
use Rattle.ls_types_laws.proofs.ProgramSteps.{program_reads}
use Rattle.ls_image.specs.Images.{code_of_image, program_of_image}
use Rattle.ls_text_laws.specs.Histories.{IsReadable, CompiledIsReadable, SourceIsReadable}
use Rattle.ls_text_laws.proofs.Names.{program_names}
use Rattle.ls_text_laws.proofs.Runs.{readable}

-- the law: source runs are readable
pub source_is_readable : SourceIsReadable
source_is_readable f o text p e h =
    let typed = typed_when f o e in
    let calls : IsTypedProgram o.file p = program_reads o typed text p ((reads_what_is_spelled o text p).1 h) in
    readable o.file p typed.typed (is_sound o.file p typed.typed typed.classes calls) calls (program_names o text p h)

-- code that is the same as the file and the program
same_is_readable : (f : File) (o : ElaboratedFile) (text : Text) (p : Program) → elaborated f ≡ Ok o → IsTextOf o p text
    → (code : Code) → Same o.file p code → (cells : ℕ) → IsCells code cells → (schedule : List ℕ) →
    IsReadable p (machine_history code cells schedule)
same_is_readable f o text p e h code same cells within schedule =
    subst (IsReadable p) (sym (same.back cells within schedule).histories)
    (source_is_readable f o text p e h (to_source code cells schedule))

-- the law: runs of compiled texts are readable
pub compiled_is_readable : CompiledIsReadable
compiled_is_readable classes text image h cells within schedule =
    same_is_readable h.file _ text (plain_program (program_of_image image)) h.elaborates h.reads (code_of_image image)
    h.runs.same cells within schedule
