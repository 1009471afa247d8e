-- Why `quiet_answer` in src/deciding.rt keeps its contract.

use Rattle.std.proofs.Common.{[], subst, sym}
use Rattle.ls_spinning.specs.Told.{IsTurning}
use Rattle.ls_translation.specs.Texts.{file_of, program_of}
use Rattle.ls_explore_commands.specs.Beside.{IsBeside, Silent}
use Rattle.ls_explore_commands.proofs.Decisions.{not_both, off, on}
use Rattle.ls_explore_commands.proofs.deciding.quiet_answer.Goals as goal

pub returns-then-not-extent : goal.returns-then-not-extent
returns-then-not-extent c = λ sfile sprogram good extent linear free.
    let classes = c.args.classes.now in
    c.free_answer.ensures classes sfile sprogram good extent linear free
    (λ complete. absurd (not_both complete (off c.args.extent.complete c.if-not-extent.true)))
    (subst (λ b. IsBeside classes c.args.image.now c.args.extent.limit b [])
    (sym (off c.args.extent.complete c.if-not-extent.true))
    Silent)

pub returns-in-Never : goal.returns-in-Never
returns-in-Never c = λ sfile sprogram good extent linear free.
    let i = c.args.image.now in
    let classes = c.args.classes.now in
    let limit = c.args.extent.limit in
    c.free_answer-in-Never.ensures classes sfile sprogram good extent linear free
    (λ complete. subst (IsTurning (file_of i) (program_of i)) c.in-Never.is c.in_ok-turning.ensures.turning)
    (subst (λ b. IsBeside classes i limit b c.as_str.result.now) (sym (on c.args.extent.complete c.if-not-extent.false))
    (subst (IsBeside classes i limit _) (sym c.as_str.ensures.value) (c.in_ok-turning.ensures.beside c.in-Never.is)))

pub returns-in-After : goal.returns-in-After
returns-in-After c = λ sfile sprogram good extent linear free.
    let i = c.args.image.now in
    c.turning_answer.ensures c.args.classes.now sfile sprogram good extent
    (subst (IsTurning (file_of i) (program_of i)) c.in-After.is c.in_ok-turning.ensures.turning) linear free

pub returns : goal.returns
returns c = λ sfile sprogram good extent linear free.
    c.unsure_answer.ensures c.args.classes.now sfile sprogram good extent linear free
