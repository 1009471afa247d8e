-- Why `lower_method` in src/files.rt keeps its clauses `tree` and `few`.

use Rattle.ls_lowered.specs.Plain.{plain_method}
use Rattle.ls_finally.proofs.Kept.{method_stays, method_has_none}
use Rattle.ls_finally.proofs.files.lower_method.Goals as goal

pub returns-then-is_flat-clause-tree : goal.returns-then-is_flat-clause-tree
returns-then-is_flat-clause-tree c = method_stays (plain_method c.args.method.now)
    (c.is_flat.ensures c.if-is_flat.true)

pub returns-then-is_flat-clause-few : goal.returns-then-is_flat-clause-few
returns-then-is_flat-clause-few c = method_has_none (plain_method c.args.method.now)
    (c.is_flat.ensures c.if-is_flat.true)
