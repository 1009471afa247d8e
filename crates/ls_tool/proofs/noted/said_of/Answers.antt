-- Why `said_of` in src/noted.rt keeps its clauses `decides` and `taken`.

use Rattle.std.proofs.Common.{◌∙◌, ap, subst, sym, Ok, Err}
use Rattle.std.specs.Prelude.{string_bytes}
use Rattle.ls_faults.specs.Given.{GivesText}
use Rattle.ls_tool.specs.Output.{AnswersText, NotesAs, RefusesAs, names_of, status_for}
use Rattle.ls_tool.proofs.Ending.{decide_err, decide_ok, takes}
use Rattle.ls_tool.proofs.Noting.{note_fails}
use Rattle.ls_tool.proofs.noted.said_of.Goals as goal

pub returns-in-Ok-clause-decides : goal.returns-in-Ok-clause-decides
returns-in-Ok-clause-decides c = λ words asks same answers.
    let input = c.args.input.now in
    let l = c.args.line in
    decide_ok words input l c.args.text c.in-Ok.beside c.status_for-status.result asks
    (c.status_for-status.ensures.is ∙ ap (status_for l.request) c.as_str.ensures.value)
    (subst (λ ns. AnswersText ns l input (Ok (string_bytes c.args.text))) (sym same) answers)
    (subst (λ ns. NotesAs ns l input (Ok (string_bytes c.in-Ok.beside))) (sym same) c.in-Ok.ensures)

pub returns-in-Err-clause-decides : goal.returns-in-Err-clause-decides
returns-in-Err-clause-decides c = λ words asks same answers.
    let input = c.args.input.now in
    let l = c.args.line in
    decide_err words input l c.in-Err.fault c.refusal_of.result asks
    (subst (λ ns. GivesText (AnswersText ns l input) (Err c.in-Err.fault)) (sym same)
    (note_fails (names_of c.args.names) l input c.in-Err.fault c.in-Err.ensures))
    (subst (λ ns. RefusesAs ns l c.in-Err.fault input c.refusal_of.result) (sym same) c.refusal_of.ensures)

pub returns-in-Err-clause-taken : goal.returns-in-Err-clause-taken
returns-in-Err-clause-taken c = takes (names_of c.args.names) c.args.line c.in-Err.fault c.args.input.now
    c.refusal_of.result c.refusal_of.ensures
