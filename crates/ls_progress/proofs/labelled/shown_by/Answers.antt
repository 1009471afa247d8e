-- Why `shown_by` in src/labelled.rt keeps its contract.
use Rattle.ls_progress.proofs.Shown.{shown_round}
use Rattle.ls_progress.proofs.labelled.shown_by.Goals as goal

pub returns-in-Some : goal.returns-in-Some
returns-in-Some c =
    shown_round c.args.labelled c.args.kind c.args.call c.args.round.now.at c.requires c.in-Some.turned _ c.in-Some.is
    c.in_ok-turn_by.ensures.led c.in_ok-turn_by.ensures.short
