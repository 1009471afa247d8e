-- Why `act` in src/machine_steps.rt keeps its clause `run`.

use Rattle.std.proofs.lemmas.Result.{on_ok_weaker}
use Rattle.ls_source.specs.Shown.{progress_of}
use Rattle.ls_translation.proofs.Following.{act_goes}
use Rattle.ls_translation.proofs.machine_steps.act.Goals as goal

pub returns-clause-run : goal.returns-clause-run
returns-clause-run c =
    on_ok_weaker c.finish_if.result
    (λ h. act_goes (progress_of c.args.source.now) c.args.run.now c.act.new.self c.finish_if.new.self c.args.most
    c.args.thread _ c.in_ok-has_setup_ended.ensures c.in_ok-act.ensures.run h)
    c.finish_if.ensures.run
