-- Why `try_thread` in src/endless.rt keeps its clauses.

use Rattle.std.proofs.Common.{◌∷◌, ◌++◌, ◌-◌, ℕ, [], List, Contains, inl, length, refl, subst, sym}
use Rattle.std.proofs.lemmas.List.Elements.{Contains-append_left}
use Rattle.ls_checked.specs.CheckedTree.{File}
use Rattle.ls_checked.specs.CheckedProgram.{Program}
use Rattle.ls_checked.specs.Plain.{plain_file}
use Rattle.ls_checked.specs.PlainProgram.{plain_program}
use Rattle.ls_events.specs.Limits.{most_steps}
use Rattle.ls_events.specs.declared.event.Event.{Event}
use Rattle.ls_meaning.specs.Runs.{source_history}
use Rattle.ls_serial_search.specs.Following.{called}
use Rattle.ls_serial_search.specs.Happened.{HasFollowed}
use Rattle.ls_serial_search.specs.Histories.{lists_of}
use Rattle.ls_serial_search.specs.Endless.{AreEndlessRuns, HasTried}
use Rattle.ls_serial_search.proofs.NeverEnding.{endless_pushed, tried_ended, tried_idle, tried_pushed}
use Rattle.ls_serial_search.proofs.Open.{is_long, is_long_call}
use Rattle.ls_serial_search.proofs.Stalls.{waiting_never}
use Rattle.ls_serial_search.proofs.endless.try_thread.Goals as goal

pub returns-in-Waits-clause-endless : goal.returns-in-Waits-clause-endless
returns-in-Waits-clause-endless c =
    let file : File = plain_file c.args.task.now.file.now in
    let program : Program = plain_program c.args.task.now.program.now in
    let schedule = c.args.schedule.now in
    let followed = subst (HasFollowed file program schedule c.args.thread c.args.task.now.most_steps) c.in-Waits.is
    c.in_ok-further.ensures.followed in
    λ serial are. subst (AreEndlessRuns file program) (sym c.in_ok-push_begun-in-Waits.ensures)
    (endless_pushed file program schedule c.args.thread c.in-Waits.call (lists_of c.args.runs.now.items)
    (waiting_never file program schedule c.args.thread c.in-Waits.call c.in-Waits.field-1 followed.0) serial are)

pub returns-in-Waits-clause-kept : goal.returns-in-Waits-clause-kept
returns-in-Waits-clause-kept c =
    let file : File = plain_file c.args.task.now.file.now in
    let program : Program = plain_program c.args.task.now.program.now in
    let begun = source_history file program c.args.schedule.now ++ called c.args.thread c.in-Waits.call ∷ [] in
    λ run there. subst (λ (l : List (List Event)). Contains l run) (sym c.in_ok-push_begun-in-Waits.ensures)
    (Contains-append_left (lists_of c.args.runs.now.items) (begun ∷ []) run there)

pub returns-in-Waits-clause-tried : goal.returns-in-Waits-clause-tried
returns-in-Waits-clause-tried c =
    let file : File = plain_file c.args.task.now.file.now in
    let program : Program = plain_program c.args.task.now.program.now in
    let schedule = c.args.schedule.now in
    let followed = subst (HasFollowed file program schedule c.args.thread c.args.task.now.most_steps) c.in-Waits.is
    c.in_ok-further.ensures.followed in
    λ up. subst (λ (l : List (List Event)). HasTried file program l schedule c.args.thread)
    (sym c.in_ok-push_begun-in-Waits.ensures)
    (tried_pushed file program schedule c.args.thread c.in-Waits.call (lists_of c.args.runs.now.items)
    (waiting_never file program schedule c.args.thread c.in-Waits.call c.in-Waits.field-1 followed.0))

pub returns-in-Turns-clause-endless : goal.returns-in-Turns-clause-endless
returns-in-Turns-clause-endless c =
    let file : File = plain_file c.args.task.now.file.now in
    let program : Program = plain_program c.args.task.now.program.now in
    let schedule = c.args.schedule.now in
    let followed = subst (HasFollowed file program schedule c.args.thread c.args.task.now.most_steps) c.in-Turns.is
    c.in_ok-further.ensures.followed in
    λ serial are. subst (AreEndlessRuns file program) (sym c.in_ok-push_begun-in-Turns.ensures)
    (endless_pushed file program schedule c.args.thread c.in-Turns.call (lists_of c.args.runs.now.items)
    followed.0.never serial are)

pub returns-in-Turns-clause-kept : goal.returns-in-Turns-clause-kept
returns-in-Turns-clause-kept c =
    let file : File = plain_file c.args.task.now.file.now in
    let program : Program = plain_program c.args.task.now.program.now in
    let begun = source_history file program c.args.schedule.now ++ called c.args.thread c.in-Turns.call ∷ [] in
    λ run there. subst (λ (l : List (List Event)). Contains l run) (sym c.in_ok-push_begun-in-Turns.ensures)
    (Contains-append_left (lists_of c.args.runs.now.items) (begun ∷ []) run there)

pub returns-in-Turns-clause-tried : goal.returns-in-Turns-clause-tried
returns-in-Turns-clause-tried c =
    let file : File = plain_file c.args.task.now.file.now in
    let program : Program = plain_program c.args.task.now.program.now in
    let schedule = c.args.schedule.now in
    let followed = subst (HasFollowed file program schedule c.args.thread c.args.task.now.most_steps) c.in-Turns.is
    c.in_ok-further.ensures.followed in
    λ up. subst (λ (l : List (List Event)). HasTried file program l schedule c.args.thread)
    (sym c.in_ok-push_begun-in-Turns.ensures)
    (tried_pushed file program schedule c.args.thread c.in-Turns.call (lists_of c.args.runs.now.items)
    followed.0.never)

pub returns-in-Stays-clause-tried : goal.returns-in-Stays-clause-tried
returns-in-Stays-clause-tried c =
    let file : File = plain_file c.args.task.now.file.now in
    let program : Program = plain_program c.args.task.now.program.now in
    λ up. tried_idle file program c.args.schedule.now c.args.thread (lists_of c.args.runs.now.items)
    (subst (HasFollowed file program c.args.schedule.now c.args.thread c.args.task.now.most_steps)
    c.in-Stays.is c.in_ok-further.ensures.followed)

pub returns-in-Ends-clause-tried : goal.returns-in-Ends-clause-tried
returns-in-Ends-clause-tried c =
    let file : File = plain_file c.args.task.now.file.now in
    let program : Program = plain_program c.args.task.now.program.now in
    λ up. tried_ended file program c.args.schedule.now c.args.thread c.in-Ends.field-0
    (lists_of c.args.runs.now.items)
    (subst (HasFollowed file program c.args.schedule.now c.args.thread c.args.task.now.most_steps)
    c.in-Ends.is c.in_ok-further.ensures.followed).2

pub returns-clause-why : goal.returns-clause-why
returns-clause-why c = λ unknown serial acts.
    let file : File = plain_file c.args.task.now.file.now in
    let program : Program = plain_program c.args.task.now.program.now in
    let most : ℕ = c.args.task.now.most_steps in
    is_long_call file program c.args.schedule.now c.args.thread most serial
    (is_long file program c.args.schedule.now c.args.thread most (most_steps - length c.args.schedule.now) most refl
    (inl refl) acts
    (subst (HasFollowed file program c.args.schedule.now c.args.thread most) c.in-GoesOn.is
    c.in_ok-further.ensures.followed
    serial))
