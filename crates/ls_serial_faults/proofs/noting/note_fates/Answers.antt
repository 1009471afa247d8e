-- Why `note_fates` in src/noting.rt keeps its contract and its loop `thread`.

use Rattle.std.proofs.Common.{arith, subst}
use Rattle.ls_checked.specs.PlainProgram.{plain_program}
use Rattle.ls_serial.proofs.Lists.{is_get}
use Rattle.ls_serial_faults.specs.Noted.{AreAllNoted}
use Rattle.ls_serial_faults.proofs.Adding.{all_more, all_none}
use Rattle.ls_serial_faults.proofs.noting.note_fates.Goals as goal

pub loop-thread-init : goal.loop-thread-init
loop-thread-init c = record {
  noted = λ file bound. all_none file (plain_program c.args.program.now) bound c.args.way.now c.args.fates.now
      c.args.found.now;
}

pub loop-thread-preserved : goal.loop-thread-preserved
loop-thread-preserved c = record {
  noted = λ file bound.
      all_more file (plain_program c.args.program.now) bound c.args.way.now c.args.fates.now c.loop-thread.thread
      _ c.args.found.now c.loop-thread.found c.note_fate.new.found
      (is_get c.args.fates.now c.loop-thread.thread _
      (omega (arith, c.loop-thread-test.true, c.len-thread-end.ensures, c.requires)))
      (c.loop-thread.invariant.noted file bound)
      (c.in_ok-note_fate.ensures file (plain_program c.args.program.now) bound);
}

pub returns : goal.returns
returns c = λ file bound.
    subst (λ n. AreAllNoted file (plain_program c.args.program.now) bound c.args.way.now c.args.fates.now n
    c.args.found.now c.loop-thread.found)
    (omega (arith, c.loop-thread-test.false, c.len-thread-end.ensures)) (c.loop-thread.invariant.noted file bound)
