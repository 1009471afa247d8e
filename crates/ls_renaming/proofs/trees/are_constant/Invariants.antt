-- What the loop `value` of `are_constant` in src/trees.rt keeps.

use Rattle.std.proofs.Common.{drop}
use Rattle.ls_meaning.specs.Constants.{AllConstant}
use Rattle.ls_renaming.proofs.trees.are_constant.Given as goal

abbrev pub invariant-loop-value : goal.invariant-loop-value
invariant-loop-value l = AllConstant (drop l.value-index l.values) → AllConstant l.values
