-- Why `judgement_on` in src/judging.rt keeps its contract.

use Rattle.ls_checked.specs.PlainProgram.{plain_program}
use Rattle.ls_batch.proofs.judging.judgement_on.Goals as goal

pub returns : goal.returns
returns c = λ file judges.
    let named = c.requires in
    record {
      verdict = c.in_ok-verdict.ensures;
      linear = c.in_ok-linearity.ensures file (plain_program c.args.program.now) judges
          (c.readable_is_once.ensures (plain_program c.args.program.now) c.args.history.now named.0 named.1.is_named
          named.1.history);
    }
