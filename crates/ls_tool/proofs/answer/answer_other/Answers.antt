-- Why `answer_other` in src/answer.rt keeps its clauses `decides` and `taken`.

use Rattle.std.proofs.Common.{subst, sym, Err}
use Rattle.ls_faults.specs.Given.{GivesText}
use Rattle.ls_tool.specs.Output.{AnswersText, RefusesAs, names_of}
use Rattle.ls_tool.proofs.Ending.{decide_err, takes}
use Rattle.ls_tool.proofs.answer.answer_other.Goals as goal

pub returns-in-Ok-clause-decides : goal.returns-in-Ok-clause-decides
returns-in-Ok-clause-decides g c = λ words asks same. c.said_of.ensures.decides words asks same c.in-Ok.ensures.gives

pub returns-in-Err-clause-decides : goal.returns-in-Err-clause-decides
returns-in-Err-clause-decides g c =
    λ words asks same. decide_err words c.args.input.now c.args.line c.in-Err.fault c.refusal_of.result asks
    (subst (λ ns. GivesText (AnswersText ns c.args.line c.args.input.now) (Err c.in-Err.fault)) (sym same)
    c.in-Err.ensures.gives)
    (subst (λ ns. RefusesAs ns c.args.line c.in-Err.fault c.args.input.now c.refusal_of.result) (sym same)
    c.refusal_of.ensures)

pub returns-in-Err-clause-taken : goal.returns-in-Err-clause-taken
returns-in-Err-clause-taken g c = takes (names_of c.args.names) c.args.line c.in-Err.fault c.args.input.now
    c.refusal_of.result
    c.refusal_of.ensures
