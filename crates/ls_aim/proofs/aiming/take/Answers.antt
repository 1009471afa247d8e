-- Why `take` in src/aiming.rt keeps its contract.

use Rattle.std.proofs.Common.{◌∙◌, ap, map, subst}
use Rattle.std.proofs.lemmas.Result.{err_from_is_err_and}
use Rattle.ls_labels.specs.Names.{names_of}
use Rattle.ls_schedule.specs.Reading.{thread_name, thread_names}
use Rattle.ls_aim.specs.Aims.{followed}
use Rattle.ls_aim.specs.Answers.{Gives}
use Rattle.ls_aim.specs.Reading.{target_of}
use Rattle.ls_aim.proofs.Taking.{a_target, names_are, no_steps, no_target, some_steps}
use Rattle.ls_aim.proofs.aiming.take.Goals as goal

pub returns-in_err-target-in-Some : goal.returns-in_err-target-in-Some
returns-in_err-target-in-Some c =
    let p = err_from_is_err_and c.from_residual.result c.from_residual.ensures.1 in
    rw (p.1, p.2)
    (no_target (names_of c.args.names) c.args.steps.now c.args.at c.args.item.now
    (map thread_name c.as_slice.result.now) c.in-Some.mark c.in_err-target-in-Some.field-0.0
    (ap (λ ts. map thread_name ts) c.as_slice.ensures.value ∙ names_are c.args.names.program.now.threads.items)
    c.in-Some.ensures.mark c.in_err-target-in-Some.ensures)

pub returns-in_err-more-in-None : goal.returns-in_err-more-in-None
returns-in_err-more-in-None c =
    let p = err_from_is_err_and c.from_residual-in_err-more-in-None.result c.from_residual-in_err-more-in-None.ensures.1
    in
    rw (p.1, p.2)
    (no_steps (names_of c.args.names) c.args.steps.now c.args.at c.args.item.now (thread_names c.args.names.program.now)
    c.in_err-more-in-None.field-0.0
    (names_are c.args.names.program.now.threads.items) c.in-None.ensures.mark c.in_err-more-in-None.ensures)

pub returns-in_ok-target-in-Some : goal.returns-in_ok-target-in-Some
returns-in_ok-target-in-Some c =
    subst (Gives _ c.go.result)
    (a_target (names_of c.args.names) c.args.steps.now c.args.at c.args.item.now (map thread_name c.as_slice.result.now)
    c.in-Some.mark (target_of c.in_ok-target-in-Some.target)
    (ap (λ ts. map thread_name ts) c.as_slice.ensures.value ∙ names_are c.args.names.program.now.threads.items)
    c.in-Some.ensures.mark c.in_ok-target-in-Some.ensures)
    c.go.ensures

pub returns-in_ok-more-in-None : goal.returns-in_ok-more-in-None
returns-in_ok-more-in-None c =
    subst (Gives _ c.follow.result)
    (ap (followed c.args.steps.now) c.steps.ensures
    ∙ some_steps (names_of c.args.names) c.args.steps.now c.args.at c.args.item.now
    (thread_names c.args.names.program.now) _
    (names_are c.args.names.program.now.threads.items) c.in-None.ensures.mark c.in_ok-more-in-None.ensures)
    c.follow.ensures
