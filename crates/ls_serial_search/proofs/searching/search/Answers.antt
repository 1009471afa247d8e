-- Why `search` in src/searching.rt keeps its clause `complete` and its loop `at`.

use Rattle.std.proofs.Common.{◌<◌, arith, subst, sym}
use Rattle.std.proofs.lemmas.List.{length-map}
use Rattle.ls_checked.specs.CheckedTree.{File}
use Rattle.ls_checked.specs.CheckedProgram.{Program}
use Rattle.ls_checked.specs.Plain.{plain_file}
use Rattle.ls_checked.specs.PlainProgram.{plain_program, plain_thread}
use Rattle.ls_serial_search.specs.Open.{HasLongCall}
use Rattle.ls_serial_search.specs.Parked.{IsParked}
use Rattle.ls_serial_search.proofs.Gone.{gone_all, gone_at, gone_more, gone_there, one_or_other}
use Rattle.ls_serial_search.proofs.Parked.{as_many, is_parked}
use Rattle.ls_serial_search.proofs.searching.search.Goals as goal

pub loop-at-preserved : goal.loop-at-preserved
loop-at-preserved c =
    let file : File = plain_file c.args.task.now.file.now in
    let program : Program = plain_program c.args.task.now.program.now in
    let there = gone_there file program c.loop-at.orders.schedules.items c.in_ok-schedule.schedule c.index.result.now
    c.loop-at.at (omega arith) c.index.ensures c.in_ok-schedule.ensures in
    record {
      gone = gone_more file program c.loop-at.orders.schedules.items
          c.follow_threads.new.known.schedules.items c.in_ok-schedule.schedule c.index.result.now c.loop-at.at
          c.loop-at.complete c.in_ok-followed.followed
          c.both-complete.result (omega arith) c.index.ensures c.in_ok-schedule.ensures
          c.loop-at.invariant.gone c.in_ok-followed.ensures.more
          (λ f there t lt. c.in_ok-followed.ensures.followed f there t
          (subst (λ n. t < n) (length-map c.args.task.now.program.now.threads.items plain_thread) lt))
          c.both-complete.ensures.hold;
      long = λ unfollowed. one_or_other c.loop-at.complete c.in_ok-followed.followed
          (HasLongCall file program c.args.task.now.most_steps) (c.both-complete.ensures.fail unfollowed)
          c.loop-at.invariant.long
          (λ e. c.in_ok-followed.ensures.long e (c.loop-at.invariant.gone.serial c.in_ok-schedule.schedule there)
          (c.loop-at.invariant.gone.acts c.in_ok-schedule.schedule there));
      tree = c.in_ok-followed.ensures.tree c.loop-at.at (gone_at file program c.loop-at.orders.schedules.items
          c.in_ok-schedule.schedule c.index.result.now c.loop-at.at (omega arith) c.index.ensures
          c.in_ok-schedule.ensures) c.loop-at.invariant.tree;
      parked = c.in_ok-followed.ensures.parked c.loop-at.invariant.parked;
    }

pub returns-clause-complete : goal.returns-clause-complete
returns-clause-complete c = gone_all (plain_file c.args.task.now.file.now) (plain_program c.args.task.now.program.now)
    c.loop-at.orders.schedules.items c.loop-at.at c.loop-at.complete c.loop-at.invariant.gone (omega arith)

pub index-requires-in-loop-at : goal.index-requires-in-loop-at
index-requires-in-loop-at c = omega (
  arith,
  c.loop-at-test.true,
  c.len.ensures,
  as_many (plain_file c.args.task.now.file.now) (plain_program c.args.task.now.program.now)
      c.loop-at.orders.schedules.items c.loop-at.orders.runs.items c.loop-at.invariant.parked,
)

pub standing-requires : goal.standing-requires
standing-requires c =
    let file : File = plain_file c.args.task.now.file.now in
    let program : Program = plain_program c.args.task.now.program.now in
    subst (λ s. IsParked file program s c.index-in-loop-at.result.now) (sym c.in_ok-schedule.ensures)
    (is_parked file program c.loop-at.orders.schedules.items c.loop-at.orders.runs.items c.loop-at.at
    c.index.result.now c.index-in-loop-at.result.now c.loop-at.invariant.parked
    (omega (arith, c.loop-at-test.true, c.len.ensures)) c.index.ensures c.index-in-loop-at.ensures)
