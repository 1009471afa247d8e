-- Why `cut_on` in src/cutting.rt keeps its clauses `some` and `none` and what `hopeless_on` and `steps_past` require.

use Rattle.std.proofs.Common.{◌∙◌, IfNone, IfSome, List, subst, sym}
use Rattle.ls_checked.specs.Plain.{plain_file}
use Rattle.ls_checked.specs.PlainProgram.{plain_program}
use Rattle.ls_events.specs.declared.event.Event.{Event}
use Rattle.ls_verdicts.specs.Hopeless.{IsHopelessRun, IsIllegal}
use Rattle.ls_verdicts.specs.Verdicts.{IsHistoryOf}
use Rattle.ls_verdicts.proofs.Begins.{cut, is_past}
use Rattle.ls_verdicts.proofs.cutting.cut_on.Goals as goal

pub hopeless_on-requires : goal.hopeless_on-requires
hopeless_on-requires c = subst (λ (h : List Event). IsHistoryOf (plain_program c.args.program.now) h)
    (sym (c.as_slice.ensures.value ∙ c.in_ok-history.ensures)) c.requires

pub steps_past-requires : goal.steps_past-requires
steps_past-requires c =
    let program = plain_program c.args.program.now in
    let same = c.as_slice.ensures.value ∙ c.in_ok-history.ensures in
    let some = subst (λ o. IfSome o (IsHopelessRun program c.as_slice.result.now)) c.in-Some.is
    c.in_ok-at.ensures.some in
    is_past (plain_file c.args.file.now) program c.args.steps.now c.in-Some.at
    (subst (λ (h : List Event). IsHopelessRun program h c.in-Some.at) same some)

pub returns-in-Some-clause-some : goal.returns-in-Some-clause-some
returns-in-Some-clause-some c =
    let program = plain_program c.args.program.now in
    let same = c.as_slice.ensures.value ∙ c.in_ok-history.ensures in
    let some = subst (λ o. IfSome o (IsHopelessRun program c.as_slice.result.now)) c.in-Some.is
    c.in_ok-at.ensures.some in
    cut (plain_file c.args.file.now) program c.args.steps.now c.in-Some.at
    (subst (λ (h : List Event). IsHopelessRun program h c.in-Some.at) same some) c.in_ok-cut-in-Some.cut
    c.in_ok-cut-in-Some.ensures

pub returns-clause-none : goal.returns-clause-none
returns-clause-none c = λ h.
    let program = plain_program c.args.program.now in
    let same = c.as_slice.ensures.value ∙ c.in_ok-history.ensures in
    let none = subst (λ o. IfNone o (¬ IsIllegal program c.as_slice.result.now)) c.in-None.is c.in_ok-at.ensures.none in
    none (subst (λ (r : List Event). IsIllegal program r) (sym same) h)
