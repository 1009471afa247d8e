-- Why `note_waits` in src/noting.rt keeps its contract.

use Rattle.ls_serial_faults.proofs.Adding.{added_waits, added_long_waits}
use Rattle.ls_serial_faults.proofs.noting.note_waits.Goals as goal

pub returns-then-branch : goal.returns-then-branch
returns-then-branch c = λ file program bound.
    added_waits file program bound c.args.way.now c.args.thread c.args.found.now c.args.call c.args.steps
    c.note_stopped.new.stopped (c.in_ok-note_stopped.ensures.noted c.if-branch.true)

pub returns : goal.returns
returns c = λ file program bound.
    added_long_waits file program bound c.args.way.now c.args.thread c.args.found.now c.args.call c.args.steps
    c.note_stopped.new.stopped (c.in_ok-note_stopped.ensures.long c.if-branch.false)
