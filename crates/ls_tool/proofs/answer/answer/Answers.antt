-- Why `answer` in src/answer.rt keeps its contract.

use Rattle.std.proofs.Common.{map, subst, sym, Some, Err}
use Rattle.std.specs.Prelude.{string_bytes}
use Rattle.std.proofs.lemmas.Result.{err_from_is_err_and}
use Rattle.ls_command_line.specs.Words.{AsksFor, IsWordsAnswer}
use Rattle.ls_tool.proofs.Ending.{refused}
use Rattle.ls_tool.proofs.answer.answer.Goals as goal

pub returns-in_err-line : goal.returns-in_err-line
returns-in_err-line g c =
    let p = err_from_is_err_and c.from_residual.result c.from_residual.ensures.1 in
    rw (p.1, p.2) (refused (map string_bytes c.args.words.now) c.args.input.now c.in_err-line.field-0.0
    (subst (λ ws. IsWordsAnswer ws (Err c.in_err-line.field-0.0)) c.asking.ensures c.in_err-line.ensures))

pub returns : goal.returns
returns g c = c.answer_line.ensures.decides (map string_bytes c.args.words.now)
    (subst (λ ws. AsksFor ws (Some c.in_ok-line.line)) c.asking.ensures c.in_ok-line.ensures)
    (sym c.file_names_in.ensures)
