-- Why `follow_on` in src/following.rt keeps its clauses and its loop `steps`.

use Rattle.std.proofs.Common.{◌≡◌, ℕ, List, [], ◌++◌, ◌+◌, ap, append-nil, arith, replicate, subst, sym, ◌∙◌}
use Rattle.ls_checked.specs.CheckedTree.{File}
use Rattle.ls_checked.specs.CheckedProgram.{Program}
use Rattle.ls_checked.specs.Plain.{plain_file}
use Rattle.ls_checked.specs.PlainProgram.{plain_program}
use Rattle.ls_meaning.specs.declared.step.Did.{Did}
use Rattle.ls_meaning.specs.Runs.{source_run, step}
use Rattle.ls_meaning.specs.Still.{IsActing, IsStill}
use Rattle.ls_serial_search.specs.Following.{called, events_of}
use Rattle.ls_serial_search.specs.Happened.{IsLast}
use Rattle.ls_serial_search.proofs.Along.{did_at, ends_in, first_begun, go_on_more, more_begun}
use Rattle.ls_serial_search.proofs.Open.{acts_by, acts_first, acts_next, ends_own, not_end, past_bound}
use Rattle.ls_serial_search.proofs.Within.{end_inside, first_inside, next_inside}
use Rattle.ls_serial_search.specs.declared.marks.Mark.{Mark}
use Rattle.ls_serial_search.proofs.ComingBack.{IsMarked, back_at_mark, mark_here, mark_stays}
use Rattle.ls_serial_search.proofs.following.follow_on.Goals.{else-is_marked, then-is_marked+in_ok-of-in-GoesOn}
use Rattle.ls_serial_search.proofs.following.follow_on.Goals as goal

-- what a thread does next after a schedule, and after no more steps of it
abbrev did_of : File → Program → List ℕ → ℕ → Did
did_of file program schedule t = (step file program (source_run file program schedule) t).did

same_first : (file : File) (program : Program) (schedule : List ℕ) (t : ℕ) →
    did_of file program schedule t ≡ did_of file program (schedule ++ []) t
same_first file program schedule t = ap (λ ts. did_of file program ts t) (sym (append-nil schedule))

pub loop-steps-init : goal.loop-steps-init
loop-steps-init c =
    let file : File = plain_file c.args.next.now.task.now.file.now in
    let program : Program = plain_program c.args.next.now.task.now.program.now in
    let schedule : List ℕ = c.args.next.now.schedule.now in
    let t : ℕ = c.args.next.now.thread in
    record {
      at = c.requires.run;
      acts = acts_first file program schedule t
          (acts_by file program schedule t _ 0 _ (same_first file program schedule t) c.requires.begun);
      inside = first_inside file program schedule t c.args.call _ (same_first file program schedule t) c.requires.begun;
      begun = first_begun file program schedule t c.args.call _ (same_first file program schedule t) c.requires.begun;
      marked = mark_here file program schedule t c.args.mark.now c.args.run.now 1 (omega arith) c.requires.mark
          c.requires.run;
    }

pub returns-then-ended-call-clause-followed : goal.returns-then-ended-call-clause-followed
returns-then-ended-call-clause-followed c =
    let file : File = plain_file c.args.next.now.task.now.file.now in
    let program : Program = plain_program c.args.next.now.task.now.program.now in
    let schedule : List ℕ = c.args.next.now.schedule.now in
    let t : ℕ = c.args.next.now.thread in
    let at = did_at file program (schedule ++ replicate c.loop-steps.steps t) t _ c.in_ok-did.did
    c.loop-steps.invariant.at c.in_ok-did.ensures.did in
    let last : IsLast t c.args.call (events_of t c.in_ok-did.did) =
    subst (λ k. IsLast t k (events_of t c.in_ok-did.did)) c.if-ended-call.true c.in-Ends.ensures in (
      ends_in file program schedule t c.args.call c.in_ok-did.did c.loop-steps.steps at c.loop-steps.auto.steps
          c.loop-steps.invariant.begun
          (acts_next file program schedule t c.loop-steps.steps c.loop-steps.invariant.acts
          (acts_by file program schedule t c.in_ok-did.did c.loop-steps.steps last.end at last.is)) last,
      omega (arith, c.loop-steps-test.true),
      ends_own file program schedule t _ (same_first file program schedule t) c.args.call c.requires.begun
          c.in_ok-did.did c.loop-steps.steps at c.loop-steps.auto.steps c.loop-steps.invariant.begun last,
    )

pub returns-in-Stays-clause-followed : goal.returns-in-Stays-clause-followed
returns-in-Stays-clause-followed c =
    let file : File = plain_file c.args.next.now.task.now.file.now in
    let program : Program = plain_program c.args.next.now.task.now.program.now in
    let schedule : List ℕ = c.args.next.now.schedule.now in
    let t : ℕ = c.args.next.now.thread in
    let at = did_at file program (schedule ++ replicate c.loop-steps.steps t) t _ c.in_ok-did.did
    c.loop-steps.invariant.at c.in_ok-did.ensures.did in (
      record {
        some = c.loop-steps.auto.steps;
        begun = c.loop-steps.invariant.begun;
        acts = c.loop-steps.invariant.acts;
        waits = subst IsStill at c.in-Stays.ensures;
      },
      omega (arith, c.loop-steps-test.true),
    )

pub returns-in-Begins-clause-followed : goal.returns-in-Begins-clause-followed
returns-in-Begins-clause-followed c = λ serial.
    let file : File = plain_file c.args.next.now.task.now.file.now in
    let program : Program = plain_program c.args.next.now.task.now.program.now in
    let schedule : List ℕ = c.args.next.now.schedule.now in
    let t : ℕ = c.args.next.now.thread in
    let at = did_at file program (schedule ++ replicate c.loop-steps.steps t) t _ c.in_ok-did.did
    c.loop-steps.invariant.at c.in_ok-did.ensures.did in
    absurd (not_end t c.in-Begins.field-0 (end_inside file program schedule t c.args.call c.in_ok-did.did
    c.loop-steps.steps at c.loop-steps.invariant.inside (called t c.in-Begins.field-0) c.in-Begins.ensures).ends)

pub returns-in-Ends-clause-followed : goal.returns-in-Ends-clause-followed
returns-in-Ends-clause-followed c = λ serial.
    let file : File = plain_file c.args.next.now.task.now.file.now in
    let program : Program = plain_program c.args.next.now.task.now.program.now in
    let schedule : List ℕ = c.args.next.now.schedule.now in
    let t : ℕ = c.args.next.now.thread in
    let at = did_at file program (schedule ++ replicate c.loop-steps.steps t) t _ c.in_ok-did.did
    c.loop-steps.invariant.at c.in_ok-did.ensures.did in
    let last = c.in-Ends.ensures in
    let own = end_inside file program schedule t c.args.call c.in_ok-did.did c.loop-steps.steps at
    c.loop-steps.invariant.inside last.end last.is in
    absurd (c.if-ended-call.false (sym last.ends.call ∙ own.call))

pub returns-clause-followed : goal.returns-clause-followed
returns-clause-followed c = λ serial.
    let file : File = plain_file c.args.next.now.task.now.file.now in
    let program : Program = plain_program c.args.next.now.task.now.program.now in
    let schedule : List ℕ = c.args.next.now.schedule.now in
    let t : ℕ = c.args.next.now.thread in
    past_bound file program schedule t _ (same_first file program schedule t) c.args.call c.requires.begun
    c.args.next.now.most c.loop-steps.steps c.loop-steps-test.false c.loop-steps.invariant.begun
    c.loop-steps.invariant.acts

pub returns-then-is_at-clause-followed : goal.returns-then-is_at-clause-followed
returns-then-is_at-clause-followed c =
    let file : File = plain_file c.args.next.now.task.now.file.now in
    let program : Program = plain_program c.args.next.now.task.now.program.now in
    let schedule : List ℕ = c.args.next.now.schedule.now in
    let t : ℕ = c.args.next.now.thread in
    let did = did_at file program (schedule ++ replicate c.loop-steps.steps t) t _ c.in_ok-did.did
    c.loop-steps.invariant.at c.in_ok-did.ensures.did in (
      back_at_mark file program schedule t c.args.call c.loop-steps.mark _ c.loop-steps.steps
          c.loop-steps.invariant.marked (c.is_at.ensures c.if-is_at.true)
          (go_on_more file program schedule t c.loop-steps.steps _ _ c.loop-steps.invariant.at
          c.in_ok-did.ensures.run)
          (more_begun file program schedule t c.args.call c.in_ok-did.did c.loop-steps.steps did
          c.loop-steps.auto.steps c.loop-steps.invariant.begun c.in-GoesOn.ensures.1)
          (acts_next file program schedule t c.loop-steps.steps c.loop-steps.invariant.acts
          (subst IsActing did c.in-GoesOn.ensures.0)),
      omega (arith, c.loop-steps-test.true),
    )

pub loop-steps-preserved : goal.loop-steps-preserved
loop-steps-preserved c =
    let file : File = plain_file c.args.next.now.task.now.file.now in
    let program : Program = plain_program c.args.next.now.task.now.program.now in
    let schedule : List ℕ = c.args.next.now.schedule.now in
    let t : ℕ = c.args.next.now.thread in
    let did = did_at file program (schedule ++ replicate c.loop-steps.steps t) t _ c.in_ok-did.did
    c.loop-steps.invariant.at c.in_ok-did.ensures.did in
    let at = go_on_more file program schedule t c.loop-steps.steps _ _ c.loop-steps.invariant.at
    c.in_ok-did.ensures.run in
    let is_marked : Mark → Type 0 = λ m. IsMarked file program schedule t m (c.loop-steps.steps + 1) in
    record {
      at = at;
      acts = acts_next file program schedule t c.loop-steps.steps c.loop-steps.invariant.acts
          (subst IsActing did c.in-GoesOn.ensures.0);
      inside = next_inside file program schedule t c.args.call c.in_ok-did.did c.loop-steps.steps did
          c.loop-steps.invariant.inside c.in-GoesOn.ensures.0 c.in-GoesOn.ensures.1;
      begun = more_begun file program schedule t c.args.call c.in_ok-did.did c.loop-steps.steps did
          c.loop-steps.auto.steps c.loop-steps.invariant.begun c.in-GoesOn.ensures.1;
      marked = elim c.if-is_marked.branch [
        | then-is_marked+in_ok-of-in-GoesOn w ↦
            subst is_marked (sym (w.mark-is ∙ w.assign.ensures)) (mark_here file program schedule t _ _
            (c.loop-steps.steps + 1) (omega arith) w.in_ok-of-in-GoesOn.ensures at)
        | else-is_marked w ↦
            subst is_marked (sym w.mark-is) (mark_stays file program schedule t c.loop-steps.mark
            c.loop-steps.steps c.loop-steps.invariant.marked)
      ];
    }

pub returns-then-ended-call-clause-stands : goal.returns-then-ended-call-clause-stands
returns-then-ended-call-clause-stands c =
    let file : File = plain_file c.args.next.now.task.now.file.now in
    let program : Program = plain_program c.args.next.now.task.now.program.now in
    go_on_more file program c.args.next.now.schedule.now c.args.next.now.thread c.loop-steps.steps _ _
    c.loop-steps.invariant.at c.in_ok-did.ensures.run
