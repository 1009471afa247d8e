-- Why `whole` in src/program.rt keeps its contract.

use Rattle.std.proofs.Common.{sym, subst}
use Rattle.std.specs.Prelude.{IfErr}
use Rattle.ls_checked.specs.PlainProgram.{plain_program}
use Rattle.ls_lexer.specs.Lexemes.{lexemes}
use Rattle.ls_types_checked.specs.CheckedFile.{elaborated_file}
use Rattle.ls_types_checked.specs.ProgramViews.{ReadsAs}
use Rattle.ls_types_programs.specs.ThreadPrograms as programs
use Rattle.ls_types_reading.specs.ReadingViews.{StopsWith}
use Rattle.ls_types_reading.proofs.FewThreads.{few_threads}
use Rattle.ls_types_reading.proofs.program.whole.Goals as goal

pub ended-requires : goal.ended-requires
ended-requires c = λ is.
    few_threads (elaborated_file c.args.methods.now.checked.now) (lexemes c.args.tokens.now) c.read_tokens.new.parts
    c.in_ok-stage.stage c.in_ok-stage.ensures.read is

pub returns-clause-read : goal.returns-clause-read
returns-clause-read c =
    subst (λ r. ReadsAs plain_program c.ended.result (programs.whole r)) (sym c.in_ok-stage.ensures.read)
    c.ended.ensures.read

pub returns-clause-place : goal.returns-clause-place
returns-clause-place c =
    subst (λ s. IfErr c.ended.result (λ e. StopsWith e s)) (sym (c.in_ok-stage.ensures.place c.args.end))
    c.ended.ensures.place
