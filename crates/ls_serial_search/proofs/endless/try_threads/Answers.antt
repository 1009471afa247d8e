-- Why `try_threads` in src/endless.rt keeps its clause `tried` and its loop `thread`.

use Rattle.std.proofs.Common.{arith}
use Rattle.ls_checked.specs.CheckedTree.{File}
use Rattle.ls_checked.specs.CheckedProgram.{Program}
use Rattle.ls_checked.specs.Plain.{plain_file}
use Rattle.ls_checked.specs.PlainProgram.{plain_program}
use Rattle.ls_serial_search.specs.Histories.{lists_of}
use Rattle.ls_serial_search.specs.Open.{HasLongCall}
use Rattle.ls_serial_search.proofs.Gone.{one_or_other}
use Rattle.ls_serial_search.proofs.NeverEnding.{threads_more}
use Rattle.ls_serial_search.proofs.endless.try_threads.Goals as goal

pub loop-thread-preserved : goal.loop-thread-preserved
loop-thread-preserved c =
    let file : File = plain_file c.args.task.now.file.now in
    let program : Program = plain_program c.args.task.now.program.now in
    record {
      endless = λ serial are. c.in_ok-known.ensures.endless serial (c.loop-thread.invariant.endless serial are);
      kept = λ run there. c.in_ok-known.ensures.kept run (c.loop-thread.invariant.kept run there);
      why = λ unknown serial acts. one_or_other c.loop-thread.all c.in_ok-known.known
          (HasLongCall file program c.args.task.now.most_steps) (c.both-all.ensures.fail unknown)
          (λ e. c.loop-thread.invariant.why e serial acts) (λ e. c.in_ok-known.ensures.why e serial acts);
      tried = λ all. threads_more file program c.args.schedule.now c.loop-thread.thread
          (lists_of c.loop-thread.runs.items) (lists_of c.try_thread.new.runs.items) c.in_ok-known.ensures.kept
          (c.loop-thread.invariant.tried (c.both-all.ensures.hold all).0)
          (c.in_ok-known.ensures.tried (c.both-all.ensures.hold all).1);
    }

pub returns-clause-tried : goal.returns-clause-tried
returns-clause-tried c = λ all t less one w. c.loop-thread.invariant.tried all t
    (omega (arith, less, c.loop-thread-test.false, c.len-thread-end.ensures)) one w
