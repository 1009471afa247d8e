-- Why `those_in` in src/held.rt keeps its loop `item`.

use Rattle.std.proofs.Common.{arith}
use Rattle.std.specs.Prelude.{pos}
use Rattle.std.specs.BTreeSet.{contains}
use Rattle.std.specs.Ordering.{int_cmp}
use Rattle.std.proofs.lemmas.Grind.{common_steps}
use Rattle.std.proofs.lemmas.List.Elements.{filter_more}
use Rattle.ls_explanations.proofs.held.those_in.Goals as goal

pub loop-item-preserved : goal.loop-item-preserved
loop-item-preserved c = grind (
  arith,
  common_steps,
  filter_more (contains int_cmp c.args.set.now) c.args.items.now
      c.loop-item.item-index (pos 0) c.loop-item-test.true,
)
