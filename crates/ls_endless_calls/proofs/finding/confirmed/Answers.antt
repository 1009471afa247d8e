-- Why `confirmed` in src/finding.rt keeps its contract.

use Rattle.ls_endless_calls.proofs.finding.confirmed.Goals as goal

pub returns : goal.returns
returns c = λ sfile sprogram tell.
    let u = c.in_ok-is_unexcused.ensures c.if-not-branch-2.false sfile sprogram tell in (
      u.0,
      record {
        turns = c.in_ok-turns_after.ensures c.if-not-branch.false;
        pending = u.1;
        alone = u.2;
      },
    )
