-- Why `verdict_on` in src/verdicts.rt keeps its contract and what `judge` requires.

use Rattle.std.proofs.Common.{◌∙◌, ap, sym, subst}
use Rattle.std.specs.Prelude.{map}
use Rattle.ls_checked.specs.PlainProgram.{plain_program}
use Rattle.ls_report.specs.Discipline.{is_history}
use Rattle.ls_report.specs.Plain.{plain_event}
use Rattle.ls_order_search.specs.Answers.{IsOutcome}
use Rattle.ls_verdicts.specs.Verdicts.{IsVerdictOn}
use Rattle.ls_verdicts.proofs.Named.{named_is}
use Rattle.ls_verdicts.proofs.Outcomes.{outcome_told}
use Rattle.ls_verdicts.proofs.verdicts.verdict_on.Goals as goal

pub judge-requires : goal.judge-requires
judge-requires c =
    let h = c.requires in
    let same = ap (map plain_event) c.as_slice.ensures.value ∙ c.in_ok-events.ensures ∙
    named_is (plain_program c.args.program.now) c.args.history.now h.0 h.1 in
    ap is_history same ∙ h.1.history

pub returns : goal.returns
returns c =
    let h = c.requires in
    let same = ap (map plain_event) c.as_slice.ensures.value ∙ c.in_ok-events.ensures ∙
    named_is (plain_program c.args.program.now) c.args.history.now h.0 h.1 in
    let outcome = c.in_ok-outcome.outcome in
    record {
      events = h.0;
      named = h.1;
      verdict = subst (IsVerdictOn h.0) (sym c.verdict_of.ensures)
          (outcome_told h.0 outcome (subst (λ es. IsOutcome es outcome) same c.in_ok-outcome.ensures));
    }
