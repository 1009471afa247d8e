-- Why `tell` in src/telling.rt keeps its contract and what `judge` and `outcome_text` require.

use Rattle.std.proofs.Common.{◌∙◌, ap, sym, subst}
use Rattle.std.proofs.lemmas.Result.{err_from_is_err_and}
use Rattle.ls_report.specs.Discipline.{is_history}
use Rattle.ls_report.specs.Reading.{Says}
use Rattle.ls_order_search.proofs.TellingLemmas.{no_history}
use Rattle.ls_order_search.proofs.telling.tell.Goals as goal

pub returns-in_err-history : goal.returns-in_err-history
returns-in_err-history c =
    let p = err_from_is_err_and c.from_residual.result c.from_residual.ensures.1 in
    rw (p.1, p.2) (no_history c.args.text.now c.in_err-history.field-0.0 c.in_err-history.ensures.fault)

pub judge-requires : goal.judge-requires
judge-requires c = ap is_history c.events-events.ensures ∙ c.in_ok-history.ensures.found.history

pub outcome_text-requires-clause-says : goal.outcome_text-requires-clause-says
outcome_text-requires-clause-says c = subst (Says c.args.text.now) (sym c.events-events.ensures)
    c.in_ok-history.ensures.found
