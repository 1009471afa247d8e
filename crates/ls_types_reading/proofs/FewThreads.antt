-- A program that is read has at most 64 threads after the setup.
use Rattle.std.proofs.Common.{◌≡◌, ◌∙◌, ◌≤◌, List, Some, length, map, ap, arith}
use Rattle.std.proofs.lemmas.List.{length-map}
use Rattle.ls_checked.specs.CheckedProgram.{Program}
use Rattle.ls_checked.specs.PlainProgram.{plain_thread}
use Rattle.ls_lexer.specs.Lexemes.{Lexeme}
use Rattle.ls_types_elaboration.specs.Elaboration.{ElaboratedFile}
use Rattle.ls_types_laws.proofs.ProgramLimits.{tokens_ranged}
use Rattle.ls_types_programs.specs.ThreadPrograms.{after, beginning, program_of_tokens, whole}
use Rattle.ls_types_reading.specs.ReadingViews.{reading_of}
use Rattle.ls_types_reading.specs.declared.reading.Parts.{Parts}
use Rattle.ls_types_reading.specs.declared.reading.Stage.{Stage}
use Rattle.ls_types_reading.specs.declared.reading.Stage.TheVariants as stages

pub few_threads : (o : ElaboratedFile) (ks : List Lexeme) (r : Parts) (s : Stage) →
    after o (Some beginning) ks ≡ Some (reading_of r s) →
    s ≡ stages.AtThread
    → length r.threads.items ≤ 65
few_threads o ks r s read is =
    let p : Program = record { names = r.names; threads = map plain_thread r.threads.items } in
    let spelled : program_of_tokens o (Some ks) ≡ Some p = ap whole (read ∙ ap (λ t. Some (reading_of r t)) is) in
    let limits = tokens_ranged o (Some ks) p spelled in
    omega (arith, limits.threads, length-map r.threads.items plain_thread)
