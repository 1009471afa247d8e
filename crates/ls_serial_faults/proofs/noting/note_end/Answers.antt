-- Why `note_end` in src/noting.rt keeps its contract.

use Rattle.ls_serial_faults.proofs.Adding.{added_ends, added_long_ends}
use Rattle.ls_serial_faults.proofs.noting.note_end.Goals as goal

pub returns-then-branch : goal.returns-then-branch
returns-then-branch c = λ file program bound.
    added_ends file program bound c.args.way.now c.args.thread c.args.found.now c.args.steps c.args.end.now
    c.note_thrown.new.thrown (c.in_ok-note_thrown.ensures.noted c.if-branch.true)

pub returns : goal.returns
returns c = λ file program bound.
    added_long_ends file program bound c.args.way.now c.args.thread c.args.found.now c.args.steps c.args.end.now
    c.note_thrown.new.thrown (c.in_ok-note_thrown.ensures.long c.if-branch.false)
