-- Why `machine_steps` in src/machine_steps.rt keeps its clause `unfit`.

use Rattle.std.proofs.lemmas.Result.{err_from_is_err_and}
use Rattle.ls_translation.proofs.machine_steps.machine_steps.Goals as goal

pub returns-in_err-follow_from_start-clause-unfit : goal.returns-in_err-follow_from_start-clause-unfit
returns-in_err-follow_from_start-clause-unfit c = λ step e.
    let p = err_from_is_err_and c.from_residual.result c.from_residual.ensures.1 in
    c.in_err-follow_from_start.ensures.unfit step (cc (p.1, p.2))
