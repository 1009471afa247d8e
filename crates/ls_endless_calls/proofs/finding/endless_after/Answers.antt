-- Why `endless_after` in src/finding.rt keeps its contract.

use Rattle.ls_specification.specs.Specification.{spec_file, spec_program}
use Rattle.ls_endless_calls.proofs.finding.endless_after.Goals as goal

pub returns-then-branch : goal.returns-then-branch
returns-then-branch c =
    let u = c.in_ok-is_unexcused.ensures c.if-branch.true (spec_file c.args.specification)
    (spec_program c.args.specification) c.in_ok-endless.ensures.all in (
      u.0,
      record {
        turns = c.requires.turns;
        pending = u.1;
        alone = u.2;
      },
    )
