-- Why `run_after` in src/acting.rt keeps its loop `thread`.

use Rattle.std.proofs.Common.{rules, ap, ◌∙◌, get_or}
use Rattle.ls_checked.specs.Plain.{plain_file}
use Rattle.ls_checked.specs.PlainProgram.{plain_program}
use Rattle.ls_source.specs.Progress.{Progress}
use Rattle.ls_meaning.specs.Runs.{step}
use Rattle.ls_fewest_switches.proofs.ActingSteps.{kept_more}
use Rattle.ls_fewest_switches.proofs.Running.{stepped}
use Rattle.ls_fewest_switches.proofs.acting.run_after.Goals as goal

pub loop-thread-preserved : goal.loop-thread-preserved
loop-thread-preserved c =
    let steps = c.args.steps.now in
    let i = c.loop-thread.thread-index in
    let inv = c.loop-thread.invariant in record {
      run = stepped (plain_file c.args.file.now) (plain_program c.args.program.now) steps i _ _ _ (search rules) inv.run
          c.in_ok-did.ensures.run;
      kept = kept_more (plain_file c.args.file.now) (plain_program c.args.program.now) steps i _ c.in_ok-did.did _ _
          (search rules)
          (c.in_ok-did.ensures.did
          ∙ ap (λ (q : Progress). (step q.file q.program q.state (get_or steps i 0)).did) inv.run)
          c.in_ok-keep_acting.ensures.acts c.in_ok-keep_acting.ensures.still inv.kept;
    }
