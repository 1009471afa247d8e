-- Why `ask_thread` in src/states.rt keeps its contract.

use Rattle.std.proofs.Common.{sym, subst}
use Rattle.ls_checked.specs.CheckedTree.{File}
use Rattle.ls_checked.specs.CheckedProgram.{Program}
use Rattle.ls_checked.specs.Plain.{plain_file}
use Rattle.ls_checked.specs.PlainProgram.{plain_program}
use Rattle.ls_meaning.specs.Runs.{source_history}
use Rattle.ls_search_laws.specs.Stepping.{ActAll}
use Rattle.ls_search_laws.proofs.Acting.{acts_times}
use Rattle.ls_serial_search.specs.Happened.{HasFollowed}
use Rattle.ls_serial_search.proofs.Stalls.{waiting_never}
use Rattle.ls_serial_search.proofs.Apart.{tree_same}
use Rattle.ls_automaton.specs.Spots.{IsLastOf, schedules_of}
use Rattle.ls_automaton.proofs.Treed.{ended_tree}
use Rattle.ls_automaton.proofs.Reaching.{ended_asked, never_asked, open_asked, open_long, still_asked}
use Rattle.ls_automaton.proofs.states.ask_thread.Goals as goal

pub reached-requires-clause-acts : goal.reached-requires-clause-acts
reached-requires-clause-acts c =
    let file : File = plain_file c.args.task.now.file.now in
    let program : Program = plain_program c.args.task.now.program.now in
    let followed =
    subst (HasFollowed file program c.args.stand.now.steps.now c.args.thread c.args.task.now.most_steps) c.in-Ends.is
    c.in_ok-followed.ensures.followed in
    subst (ActAll file program) (sym c.in_ok-longer-in-Ends.ensures)
    (acts_times file program c.args.stand.now.steps.now c.args.thread c.in-Ends.count c.requires.acts followed.0.acts)

pub returns-in-Stays-clause-fate : goal.returns-in-Stays-clause-fate
returns-in-Stays-clause-fate c =
    let file : File = plain_file c.args.task.now.file.now in
    let program : Program = plain_program c.args.task.now.program.now in
    let followed =
    subst (HasFollowed file program c.args.stand.now.steps.now c.args.thread c.args.task.now.most_steps) c.in-Stays.is
    c.in_ok-followed.ensures.followed in
    followed

pub returns-in-Waits-clause-fate : goal.returns-in-Waits-clause-fate
returns-in-Waits-clause-fate c =
    let file : File = plain_file c.args.task.now.file.now in
    let program : Program = plain_program c.args.task.now.program.now in
    let followed =
    subst (HasFollowed file program c.args.stand.now.steps.now c.args.thread c.args.task.now.most_steps) c.in-Waits.is
    c.in_ok-followed.ensures.followed in
    followed.0

pub returns-in-Turns-clause-fate : goal.returns-in-Turns-clause-fate
returns-in-Turns-clause-fate c =
    let file : File = plain_file c.args.task.now.file.now in
    let program : Program = plain_program c.args.task.now.program.now in
    let followed =
    subst (HasFollowed file program c.args.stand.now.steps.now c.args.thread c.args.task.now.most_steps) c.in-Turns.is
    c.in_ok-followed.ensures.followed in
    followed.0

pub returns-in-GoesOn-clause-fate : goal.returns-in-GoesOn-clause-fate
returns-in-GoesOn-clause-fate c =
    let file : File = plain_file c.args.task.now.file.now in
    let program : Program = plain_program c.args.task.now.program.now in
    let followed =
    subst (HasFollowed file program c.args.stand.now.steps.now c.args.thread c.args.task.now.most_steps) c.in-GoesOn.is
    c.in_ok-followed.ensures.followed in
    followed c.requires.serial

pub returns-in_ok-push-in-Ends-clause-fate : goal.returns-in_ok-push-in-Ends-clause-fate
returns-in_ok-push-in-Ends-clause-fate c =
    let file : File = plain_file c.args.task.now.file.now in
    let program : Program = plain_program c.args.task.now.program.now in
    let followed =
    subst (HasFollowed file program c.args.stand.now.steps.now c.args.thread c.args.task.now.most_steps) c.in-Ends.is
    c.in_ok-followed.ensures.followed in
    record {
      ends = followed.0;
      ended = followed.2;
      last = subst (λ l. IsLastOf (source_history file program l) c.in_ok-outcome-in-Ends.outcome.end)
          c.in_ok-longer-in-Ends.ensures c.in_ok-outcome-in-Ends.ensures.end;
    }

pub returns-in-Stays-clause-asked : goal.returns-in-Stays-clause-asked
returns-in-Stays-clause-asked c =
    let file : File = plain_file c.args.task.now.file.now in
    let program : Program = plain_program c.args.task.now.program.now in
    still_asked file program c.args.task.now.most_steps c.args.stand.now.steps.now c.args.thread
    c.args.spots.now.list.items c.args.row.now.items c.requires.spots
    (subst (HasFollowed file program c.args.stand.now.steps.now c.args.thread c.args.task.now.most_steps) c.in-Stays.is
    c.in_ok-followed.ensures.followed)

pub returns-in-Waits-clause-asked : goal.returns-in-Waits-clause-asked
returns-in-Waits-clause-asked c =
    let file : File = plain_file c.args.task.now.file.now in
    let program : Program = plain_program c.args.task.now.program.now in
    let schedule = c.args.stand.now.steps.now in
    never_asked file program c.args.task.now.most_steps schedule c.args.thread c.args.spots.now.list.items
    c.args.row.now.items c.requires.spots c.in-Waits.call
    (waiting_never file program schedule c.args.thread c.in-Waits.call c.in-Waits.waits
    (subst (HasFollowed file program schedule c.args.thread c.args.task.now.most_steps) c.in-Waits.is
    c.in_ok-followed.ensures.followed).0)

pub returns-in-Turns-clause-asked : goal.returns-in-Turns-clause-asked
returns-in-Turns-clause-asked c =
    let file : File = plain_file c.args.task.now.file.now in
    let program : Program = plain_program c.args.task.now.program.now in
    let schedule = c.args.stand.now.steps.now in
    never_asked file program c.args.task.now.most_steps schedule c.args.thread c.args.spots.now.list.items
    c.args.row.now.items c.requires.spots c.in-Turns.call
    (subst (HasFollowed file program schedule c.args.thread c.args.task.now.most_steps) c.in-Turns.is
    c.in_ok-followed.ensures.followed).0.never

pub returns-in-GoesOn-clause-asked : goal.returns-in-GoesOn-clause-asked
returns-in-GoesOn-clause-asked c =
    let file : File = plain_file c.args.task.now.file.now in
    let program : Program = plain_program c.args.task.now.program.now in
    open_asked file program c.args.task.now.most_steps c.args.stand.now.steps.now c.args.thread
    c.args.spots.now.list.items c.args.row.now.items c.requires.spots
    (subst (HasFollowed file program c.args.stand.now.steps.now c.args.thread c.args.task.now.most_steps) c.in-GoesOn.is
    c.in_ok-followed.ensures.followed c.requires.serial).0

pub returns-in-GoesOn-clause-long : goal.returns-in-GoesOn-clause-long
returns-in-GoesOn-clause-long c = λ goes_on.
    let file : File = plain_file c.args.task.now.file.now in
    let program : Program = plain_program c.args.task.now.program.now in
    open_long file program c.args.task.now.most_steps c.args.stand.now.steps.now c.args.thread c.requires.serial
    c.requires.acts
    (subst (HasFollowed file program c.args.stand.now.steps.now c.args.thread c.args.task.now.most_steps) c.in-GoesOn.is
    c.in_ok-followed.ensures.followed c.requires.serial)

pub returns-in_ok-push-in-Ends-clause-asked : goal.returns-in_ok-push-in-Ends-clause-asked
returns-in_ok-push-in-Ends-clause-asked c =
    let file : File = plain_file c.args.task.now.file.now in
    let program : Program = plain_program c.args.task.now.program.now in
    let followed =
    subst (HasFollowed file program c.args.stand.now.steps.now c.args.thread c.args.task.now.most_steps) c.in-Ends.is
    c.in_ok-followed.ensures.followed in
    ended_asked file program c.args.task.now.most_steps c.args.stand.now.steps.now c.in_ok-longer-in-Ends.longer.items
    c.args.thread c.in-Ends.count c.args.spots.now.list.items c.reached.new.spots.list.items c.args.row.now.items
    c.push.new.self.items c.in_ok-outcome-in-Ends.outcome followed.2 c.in_ok-longer-in-Ends.ensures
    c.in_ok-outcome-in-Ends.ensures.after c.in_ok-outcome-in-Ends.ensures.end c.in_ok-push-in-Ends.ensures.items

pub returns-in-Stays-clause-tree : goal.returns-in-Stays-clause-tree
returns-in-Stays-clause-tree c = λ place at tree. tree_same (plain_file c.args.task.now.file.now)
    (plain_program c.args.task.now.program.now) (schedules_of c.args.spots.now.list.items) place c.args.thread tree

pub returns-in-Waits-clause-tree : goal.returns-in-Waits-clause-tree
returns-in-Waits-clause-tree c = λ place at tree. tree_same (plain_file c.args.task.now.file.now)
    (plain_program c.args.task.now.program.now) (schedules_of c.args.spots.now.list.items) place c.args.thread tree

pub returns-in-Turns-clause-tree : goal.returns-in-Turns-clause-tree
returns-in-Turns-clause-tree c = λ place at tree. tree_same (plain_file c.args.task.now.file.now)
    (plain_program c.args.task.now.program.now) (schedules_of c.args.spots.now.list.items) place c.args.thread tree

pub returns-in-GoesOn-clause-tree : goal.returns-in-GoesOn-clause-tree
returns-in-GoesOn-clause-tree c = λ place at tree. tree_same (plain_file c.args.task.now.file.now)
    (plain_program c.args.task.now.program.now) (schedules_of c.args.spots.now.list.items) place c.args.thread tree

pub returns-in_ok-push-in-Ends-clause-tree : goal.returns-in_ok-push-in-Ends-clause-tree
returns-in_ok-push-in-Ends-clause-tree c = λ place at tree.
    let file : File = plain_file c.args.task.now.file.now in
    let program : Program = plain_program c.args.task.now.program.now in
    let followed =
    subst (HasFollowed file program c.args.stand.now.steps.now c.args.thread c.args.task.now.most_steps) c.in-Ends.is
    c.in_ok-followed.ensures.followed in
    ended_tree file program c.args.spots.now.list.items c.reached.new.spots.list.items place c.args.thread
    c.in-Ends.count c.args.stand.now.steps.now c.in_ok-longer-in-Ends.longer.items tree at followed.2
    c.in_ok-longer-in-Ends.ensures c.in_ok-outcome-in-Ends.ensures.pushed
