-- Why `beginning_of` in src/beginnings.rt keeps its clause `some` and what `first_events` requires.

use Rattle.std.proofs.Common.{IfSome, subst}
use Rattle.ls_checked.specs.PlainProgram.{plain_program}
use Rattle.ls_verdicts.specs.Hopeless.{IsHopelessRun}
use Rattle.ls_explore_reports.proofs.ListedBeginnings.{at_within}
use Rattle.ls_explore_reports.proofs.beginnings.beginning_of.Goals as goal

pub first_events-requires : goal.first_events-requires
first_events-requires c =
    let program = plain_program c.args.program.now in
    at_within program c.args.history.now c.in-Some.at
    (subst (λ o. IfSome o (IsHopelessRun program c.args.history.now)) c.in-Some.is c.in_ok-at.ensures.some)

pub returns-in_ok-events-in-Some-clause-some : goal.returns-in_ok-events-in-Some-clause-some
returns-in_ok-events-in-Some-clause-some c = (
  c.in-Some.at,
  subst (λ o. IfSome o (IsHopelessRun (plain_program c.args.program.now) c.args.history.now)) c.in-Some.is
      c.in_ok-at.ensures.some,
  c.in_ok-events-in-Some.ensures,
)
