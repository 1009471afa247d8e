-- Why `hopeless_on` in src/hopeless.rt keeps its clauses `some` and `none` and what `judge` requires.

use Rattle.std.proofs.Common.{◌∙◌, IfNone, IfSome, ap, sym, subst}
use Rattle.std.specs.Prelude.{map}
use Rattle.ls_checked.specs.PlainProgram.{plain_program}
use Rattle.ls_report.specs.Discipline.{is_history}
use Rattle.ls_report.specs.Plain.{plain_event}
use Rattle.ls_order_search.specs.Answers.{IsOutcome}
use Rattle.ls_verdicts.specs.Hopeless.{IsHopelessRun, IsIllegal}
use Rattle.ls_verdicts.proofs.HopelessRuns.{outcome_hopeless, outcome_other}
use Rattle.ls_verdicts.proofs.Named.{named_is}
use Rattle.ls_verdicts.proofs.hopeless.hopeless_on.Goals as goal

pub judge-requires : goal.judge-requires
judge-requires c =
    let h = c.requires in
    let same = ap (map plain_event) c.as_slice.ensures.value ∙ c.in_ok-events.ensures ∙
    named_is (plain_program c.args.program.now) c.args.history.now h.0 h.1 in
    ap is_history same ∙ h.1.history

pub returns-clause-some : goal.returns-clause-some
returns-clause-some c =
    let h = c.requires in
    let program = plain_program c.args.program.now in
    let same = ap (map plain_event) c.as_slice.ensures.value ∙ c.in_ok-events.ensures ∙
    named_is program c.args.history.now h.0 h.1 in
    let outcome = c.in_ok-outcome.outcome in
    subst (λ o. IfSome o (IsHopelessRun program c.args.history.now)) (sym c.hopeless_at.ensures)
    (outcome_hopeless program c.args.history.now h.0 h.1 outcome
    (subst (λ es. IsOutcome es outcome) same c.in_ok-outcome.ensures))

pub returns-clause-none : goal.returns-clause-none
returns-clause-none c =
    let h = c.requires in
    let program = plain_program c.args.program.now in
    let same = ap (map plain_event) c.as_slice.ensures.value ∙ c.in_ok-events.ensures ∙
    named_is program c.args.history.now h.0 h.1 in
    let outcome = c.in_ok-outcome.outcome in
    subst (λ o. IfNone o (¬ IsIllegal program c.args.history.now)) (sym c.hopeless_at.ensures)
    (outcome_other program c.args.history.now h.0 h.1 outcome
    (subst (λ es. IsOutcome es outcome) same c.in_ok-outcome.ensures))
