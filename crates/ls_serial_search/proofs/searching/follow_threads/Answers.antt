-- Why `follow_threads` in src/searching.rt keeps its clause `tree` and its loop `thread`.

use Rattle.std.proofs.Common.{ℕ, List, Contains}
use Rattle.ls_checked.specs.CheckedTree.{File}
use Rattle.ls_checked.specs.CheckedProgram.{Program}
use Rattle.ls_checked.specs.Plain.{plain_file}
use Rattle.ls_checked.specs.PlainProgram.{plain_program}
use Rattle.ls_serial_search.specs.Open.{HasLongCall}
use Rattle.ls_serial_search.specs.Told.{AreMore}
use Rattle.ls_serial_search.proofs.Apart.{still_there, tree_next}
use Rattle.ls_serial_search.proofs.Gone.{more_again, one_or_other, there_more, threads_more}
use Rattle.ls_serial_search.proofs.Open.{is_long_call}
use Rattle.ls_serial_search.proofs.searching.follow_threads.Goals as goal

pub loop-thread-preserved : goal.loop-thread-preserved
loop-thread-preserved c =
    let file : File = plain_file c.args.task.now.file.now in
    let program : Program = plain_program c.args.task.now.program.now in
    let schedule : List ℕ = c.args.schedule.now in
    let bound : ℕ = c.args.task.now.most_steps in
    let old : List (List ℕ) = c.loop-thread.known.schedules.items in
    let new : List (List ℕ) = c.follow_thread.new.known.schedules.items in
    let more : Contains c.args.known.now.schedules.items schedule → AreMore file program old new = λ there.
    c.in_ok-followed.ensures.more (there_more file program c.args.known.now.schedules.items old schedule
    (c.loop-thread.invariant.more there) there) in
    record {
      more = λ there. more_again file program c.args.known.now.schedules.items old new
          (c.loop-thread.invariant.more there)
          (more there);
      followed = λ all there. threads_more file program old new schedule c.loop-thread.thread (more there)
          (c.loop-thread.invariant.followed (c.both-all.ensures.hold all).0 there)
          (c.in_ok-followed.ensures.followed (c.both-all.ensures.hold all).1);
      long = λ unfollowed serial acts. one_or_other c.loop-thread.all c.in_ok-followed.followed
          (HasLongCall file program bound) (c.both-all.ensures.fail unfollowed)
          (λ e. c.loop-thread.invariant.long e serial acts)
          (λ e. is_long_call file program schedule c.loop-thread.thread bound serial
          (c.in_ok-followed.ensures.long e serial acts));
      tree = λ place at tree.
          let kept = c.loop-thread.invariant.tree place at tree in (
            c.in_ok-followed.ensures.tree place kept.1 kept.0,
            still_there file program old new place schedule c.in_ok-followed.ensures.more kept.1,
          );
      parked = λ are. c.in_ok-followed.ensures.parked (c.loop-thread.invariant.parked are);
    }

pub returns-clause-tree : goal.returns-clause-tree
returns-clause-tree c = λ place at tree. tree_next (plain_file c.args.task.now.file.now)
    (plain_program c.args.task.now.program.now) c.loop-thread.known.schedules.items place c.loop-thread.thread
    (c.loop-thread.invariant.tree place at tree).0
