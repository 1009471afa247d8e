-- Why `follow_thread` in src/searching.rt keeps its clauses `more`, `followed`, `long`, `tree` and `parked`.

use Rattle.std.proofs.Common.{arith, inl, inr, subst, sym}
use Rattle.ls_checked.specs.Plain.{plain_file}
use Rattle.ls_checked.specs.PlainProgram.{plain_program}
use Rattle.ls_source.specs.Stands.{StandsFor}
use Rattle.ls_serial_search.specs.Happened.{HasFollowed}
use Rattle.ls_serial_search.specs.Orders.{progress_at}
use Rattle.ls_serial_search.specs.Parked.{StandsBehind}
use Rattle.ls_serial_search.proofs.Apart.{tree_more, tree_same}
use Rattle.ls_serial_search.proofs.Gone.{ends_followed, ends_more}
use Rattle.ls_serial_search.proofs.Open.{is_long}
use Rattle.ls_serial_search.proofs.Stalls.{waiting_never}
use Rattle.ls_serial_search.proofs.searching.follow_thread.Goals as goal

pub returns-clause-more : goal.returns-clause-more
returns-clause-more c = ends_more (plain_file c.args.task.now.file.now)
    (plain_program c.args.task.now.program.now)
    c.args.known.now.schedules.items c.add.new.orders.schedules.items c.args.schedule.now c.in_ok-longer.longer
    c.args.thread c.in-Ends.steps
    (subst (HasFollowed (plain_file c.args.task.now.file.now) (plain_program c.args.task.now.program.now)
    c.args.schedule.now
    c.args.thread c.least-most.result) c.in-Ends.is c.in_ok-followed.ensures.followed).0
    c.in_ok-longer.ensures c.in_ok-add.ensures.schedules

pub returns-in-GoesOn-clause-long : goal.returns-in-GoesOn-clause-long
returns-in-GoesOn-clause-long c = λ unfollowed serial acts. is_long (plain_file c.args.task.now.file.now)
    (plain_program c.args.task.now.program.now) c.args.schedule.now c.args.thread c.args.task.now.most_steps _
    c.least-most.result (omega arith) c.least-most.ensures.2 acts
    (subst (HasFollowed (plain_file c.args.task.now.file.now) (plain_program c.args.task.now.program.now)
    c.args.schedule.now c.args.thread c.least-most.result) c.in-GoesOn.is c.in_ok-followed.ensures.followed serial)

pub returns-in-GoesOn-clause-tree : goal.returns-in-GoesOn-clause-tree
returns-in-GoesOn-clause-tree c = λ place at tree. tree_same (plain_file c.args.task.now.file.now)
    (plain_program c.args.task.now.program.now) c.args.known.now.schedules.items place c.args.thread tree

pub returns-in-Waits-clause-tree : goal.returns-in-Waits-clause-tree
returns-in-Waits-clause-tree c = λ place at tree. tree_same (plain_file c.args.task.now.file.now)
    (plain_program c.args.task.now.program.now) c.args.known.now.schedules.items place c.args.thread tree

pub returns-in-Turns-clause-tree : goal.returns-in-Turns-clause-tree
returns-in-Turns-clause-tree c = λ place at tree. tree_same (plain_file c.args.task.now.file.now)
    (plain_program c.args.task.now.program.now) c.args.known.now.schedules.items place c.args.thread tree

pub returns-in-Waits-clause-followed : goal.returns-in-Waits-clause-followed
returns-in-Waits-clause-followed c = λ up.
    let file = plain_file c.args.task.now.file.now in
    let program = plain_program c.args.task.now.program.now in
    let schedule = c.args.schedule.now in
    inr (inl (
      c.in-Waits.field-0,
      waiting_never file program schedule c.args.thread c.in-Waits.field-0 c.in-Waits.field-1
          (subst (HasFollowed file program schedule c.args.thread c.least-most.result) c.in-Waits.is
          c.in_ok-followed.ensures.followed).0,
    ))

pub returns-clause-followed : goal.returns-clause-followed
returns-clause-followed c = λ up.
    let file = plain_file c.args.task.now.file.now in
    let program = plain_program c.args.task.now.program.now in
    let schedule = c.args.schedule.now in
    ends_followed file program c.args.known.now.schedules.items c.add.new.orders.schedules.items schedule
    c.in_ok-longer.longer c.args.thread c.in-Ends.steps
    (subst (HasFollowed file program schedule c.args.thread c.least-most.result) c.in-Ends.is
    c.in_ok-followed.ensures.followed).0
    c.in_ok-longer.ensures c.in_ok-add.ensures.schedules

pub returns-in-Stays-clause-tree : goal.returns-in-Stays-clause-tree
returns-in-Stays-clause-tree c = λ place at tree. tree_same (plain_file c.args.task.now.file.now)
    (plain_program c.args.task.now.program.now) c.args.known.now.schedules.items place c.args.thread tree

pub returns-clause-tree : goal.returns-clause-tree
returns-clause-tree c = λ place at tree. tree_more (plain_file c.args.task.now.file.now)
    (plain_program c.args.task.now.program.now) c.args.known.now.schedules.items c.add.new.orders.schedules.items place
    c.args.thread
    c.in-Ends.steps c.args.schedule.now c.in_ok-longer.longer tree at
    (subst (HasFollowed (plain_file c.args.task.now.file.now) (plain_program c.args.task.now.program.now)
    c.args.schedule.now c.args.thread c.least-most.result) c.in-Ends.is c.in_ok-followed.ensures.followed).2
    c.in_ok-longer.ensures c.in_ok-add.ensures.schedules

pub returns-clause-parked : goal.returns-clause-parked
returns-clause-parked c = λ are.
    let file = plain_file c.args.task.now.file.now in
    let program = plain_program c.args.task.now.program.now in
    let behind = subst (λ f. StandsBehind file program c.args.schedule.now c.args.thread f
    c.in_ok-followed.field-0.run) c.in-Ends.is c.in_ok-followed.ensures.stands in
    c.in_ok-add.ensures.parked file program
    (subst (λ l. StandsFor c.in_ok-followed.field-0.run (progress_at file program l)) (sym c.in_ok-longer.ensures)
    behind) are
