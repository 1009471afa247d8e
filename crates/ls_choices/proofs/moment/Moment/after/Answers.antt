-- Why `Moment::after` in src/moment.rt keeps its loop `thread`.

use Rattle.std.proofs.Common.{rules, ◌<◌, length, subst, sym, take}
use Rattle.ls_labels.specs.Names.{names_of}
use Rattle.ls_choices.specs.Schedules.{told_after}
use Rattle.ls_choices.specs.Seen.{IsAt}
use Rattle.ls_choices.proofs.Seeing.{told_take}
use Rattle.ls_choices.proofs.moment.Moment.after.Goals as goal

pub loop-thread-preserved : goal.loop-thread-preserved
loop-thread-preserved c =
    let names = names_of c.args.names in
    let ts = c.args.steps.now in
    let i = c.loop-thread.thread-index in
    let within : i < length ts = search rules in
    subst (IsAt names c.step.new.self) (sym (told_take names ts i 0 within))
    (c.in_ok-step.ensures names (told_after names (take i ts)) c.loop-thread.invariant)
