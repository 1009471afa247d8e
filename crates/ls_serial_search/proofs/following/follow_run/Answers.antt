-- Why `follow_run` in src/following.rt keeps its clauses.

use Rattle.std.proofs.Common.{◌≡◌, ℕ, List, [], ◌∷◌, subst}
use Rattle.ls_checked.specs.CheckedTree.{File}
use Rattle.ls_checked.specs.CheckedProgram.{Program}
use Rattle.ls_checked.specs.Plain.{plain_file}
use Rattle.ls_checked.specs.PlainProgram.{plain_program}
use Rattle.ls_meaning.specs.Still.{IsStill}
use Rattle.ls_serial_search.specs.Following.{called, events_of}
use Rattle.ls_serial_search.proofs.Along.{at_none, did_at, did_first, go_on_more}
use Rattle.ls_serial_search.proofs.Open.{ends_first, silent_first}
use Rattle.ls_serial_search.proofs.following.follow_run.Goals as goal

pub returns-in-Stays-clause-followed : goal.returns-in-Stays-clause-followed
returns-in-Stays-clause-followed c =
    let file : File = plain_file c.args.next.now.task.now.file.now in
    let program : Program = plain_program c.args.next.now.task.now.program.now in
    subst IsStill (did_at file program c.args.next.now.schedule.now c.args.next.now.thread _ c.in_ok-first.first
    c.requires c.in_ok-first.ensures.did) c.in-Stays.ensures

pub returns-in-GoesOn-clause-followed : goal.returns-in-GoesOn-clause-followed
returns-in-GoesOn-clause-followed c = λ serial.
    let file : File = plain_file c.args.next.now.task.now.file.now in
    let program : Program = plain_program c.args.next.now.task.now.program.now in
    let schedule : List ℕ = c.args.next.now.schedule.now in
    let t : ℕ = c.args.next.now.thread in
    absurd (silent_first file program schedule t c.in_ok-first.first
    (did_first file program schedule t _ c.in_ok-first.first c.requires c.in_ok-first.ensures.did)
    c.in-GoesOn.ensures.0 c.in-GoesOn.ensures.1 serial)

pub returns-in-Ends-clause-followed : goal.returns-in-Ends-clause-followed
returns-in-Ends-clause-followed c = λ serial.
    let file : File = plain_file c.args.next.now.task.now.file.now in
    let program : Program = plain_program c.args.next.now.task.now.program.now in
    let schedule : List ℕ = c.args.next.now.schedule.now in
    let t : ℕ = c.args.next.now.thread in
    absurd (ends_first file program schedule t c.in_ok-first.first _
    (did_first file program schedule t _ c.in_ok-first.first c.requires c.in_ok-first.ensures.did) c.in-Ends.ensures
    serial)

pub follow_on-requires-clause-begun : goal.follow_on-requires-clause-begun
follow_on-requires-clause-begun c =
    let file : File = plain_file c.args.next.now.task.now.file.now in
    let program : Program = plain_program c.args.next.now.task.now.program.now in
    let t : ℕ = c.args.next.now.thread in
    subst (λ d. events_of t d ≡ called t c.in-Begins.call ∷ []) (did_at file program c.args.next.now.schedule.now t _
    c.in_ok-first.first c.requires c.in_ok-first.ensures.did) c.in-Begins.ensures

pub follow_on-requires-clause-run : goal.follow_on-requires-clause-run
follow_on-requires-clause-run c =
    let file : File = plain_file c.args.next.now.task.now.file.now in
    let program : Program = plain_program c.args.next.now.task.now.program.now in
    let schedule : List ℕ = c.args.next.now.schedule.now in
    go_on_more file program schedule c.args.next.now.thread 0 _ _ (at_none file program schedule _ c.requires)
    c.in_ok-first.ensures.run
