-- Why `decided` in src/deciding.rt keeps its contract.

use Rattle.std.proofs.Common.{subst, sym}
use Rattle.std.specs.Prelude.{IfNone, IfSome, IsTrue}
use Rattle.ls_explore.specs.Faults.{AreBadStates}
use Rattle.ls_faults.specs.Given.{GivesText}
use Rattle.ls_source_judge.specs.Judged.{AllLike, IsStuckRun, IsUnjudgedRun, IsUnlikeRun}
use Rattle.ls_search.specs.Verdicts.{NeverStuck}
use Rattle.ls_specification.specs.Specification.{spec_file, spec_program}
use Rattle.ls_translation.specs.Texts.{file_of, program_of}
use Rattle.ls_explore_commands.specs.Verdicts.{Decided, IsExtent, NoStates}
use Rattle.ls_explore_commands.proofs.Decisions.{at_extent, not_both}
use Rattle.ls_explore_commands.proofs.deciding.decided.Goals as goal

pub returns-then-are_bad_states : goal.returns-then-are_bad_states
returns-then-are_bad_states c = NoStates (c.are_bad_states.ensures.0 c.if-are_bad_states.true)

pub returns-in-Some : goal.returns-in-Some
returns-in-Some c =
    let sfile = spec_file c.args.specification in
    let sprogram = spec_program c.args.specification in
    let i = c.args.image.now in
    let j = c.in_ok-judged.judged in
    let e = c.extent_of-extent.result in
    let is = c.extent_of-extent.ensures in
    let good : ¬ AreBadStates e.limit =
    λ bad. not_both (c.are_bad_states.ensures.1 (subst AreBadStates is.limit bad)) c.if-are_bad_states.false in
    subst (λ l. GivesText (Decided c.args.classes.now sfile sprogram i l) c.wrong_answer.result) is.limit
    (c.wrong_answer.ensures c.args.classes.now good
    (at_extent (IsExtent (file_of i) (program_of i)) is.limit is.states is.complete c.in_ok-judged.ensures.extent)
    (subst (λ s. IfNone j.doubt (IsUnlikeRun sfile sprogram (file_of i) (program_of i) s))
    (sym c.as_slice.ensures.value)
    (subst (λ o. IfNone j.doubt (IfSome o (λ s. IsUnlikeRun sfile sprogram (file_of i) (program_of i) s.items)))
    c.in-Some.is
    c.in_ok-judged.ensures.bad))
    (subst (λ s. IfSome j.doubt (λ d. IsUnjudgedRun sfile sprogram (file_of i) (program_of i) d s))
    (sym c.as_slice.ensures.value)
    (subst (λ o. IfSome j.doubt (λ d. IfSome o (λ s. IsUnjudgedRun sfile sprogram (file_of i) (program_of i)
    d s.items))) c.in-Some.is
    c.in_ok-judged.ensures.unjudged))
    (subst (λ b. IsTrue b → IfNone j.stuck (NeverStuck (file_of i) (program_of i))) (sym is.complete)
    c.in_ok-judged.ensures.free)
    c.in_ok-judged.ensures.stuck)

pub returns-in-Some-stuck : goal.returns-in-Some-stuck
returns-in-Some-stuck c =
    let sfile = spec_file c.args.specification in
    let sprogram = spec_program c.args.specification in
    let i = c.args.image.now in
    let j = c.in_ok-judged.judged in
    let e = c.extent_of-extent.result in
    let is = c.extent_of-extent.ensures in
    let good : ¬ AreBadStates e.limit =
    λ bad. not_both (c.are_bad_states.ensures.1 (subst AreBadStates is.limit bad)) c.if-are_bad_states.false in
    subst (λ l. GivesText (Decided c.args.classes.now sfile sprogram i l) c.stuck_answer.result) is.limit
    (c.stuck_answer.ensures c.args.classes.now sfile sprogram good
    (at_extent (IsExtent (file_of i) (program_of i)) is.limit is.states is.complete c.in_ok-judged.ensures.extent)
    (subst (λ s. IsStuckRun (file_of i) (program_of i) s) (sym c.as_slice-in-Some-stuck.ensures.value)
    (subst (λ o. IfSome o (λ s. IsStuckRun (file_of i) (program_of i) s.items)) c.in-Some-stuck.is
    c.in_ok-judged.ensures.stuck))
    (λ complete. subst (λ o. IfNone o (AllLike sfile sprogram (file_of i) (program_of i))) c.in-None.is
    (c.in_ok-judged.ensures.good (subst IsTrue is.complete complete))))

pub returns : goal.returns
returns c =
    let sfile = spec_file c.args.specification in
    let sprogram = spec_program c.args.specification in
    let i = c.args.image.now in
    let e = c.extent_of-extent.result in
    let is = c.extent_of-extent.ensures in
    let good : ¬ AreBadStates e.limit =
    λ bad. not_both (c.are_bad_states.ensures.1 (subst AreBadStates is.limit bad)) c.if-are_bad_states.false in
    subst (λ l. GivesText (Decided c.args.classes.now sfile sprogram i l) c.quiet_answer.result) is.limit
    (c.quiet_answer.ensures sfile sprogram good
    (at_extent (IsExtent (file_of i) (program_of i)) is.limit is.states is.complete c.in_ok-judged.ensures.extent)
    (λ complete. subst (λ o. IfNone o (AllLike sfile sprogram (file_of i) (program_of i))) c.in-None.is
    (c.in_ok-judged.ensures.good (subst IsTrue is.complete complete)))
    (λ complete. subst (λ o. IfNone o (NeverStuck (file_of i) (program_of i))) c.in-None-stuck.is
    (c.in_ok-judged.ensures.free (subst IsTrue is.complete complete))))
