-- What the loop `number` of `good_ones` in src/quiet.rt keeps.

use Rattle.std.proofs.Common.{◌≡◌}
use Rattle.std.specs.Prelude.{replicate}
use Rattle.ls_family_search.specs.declared.judging.Passed.TheVariants as passed
use Rattle.ls_find_races.proofs.quiet.good_ones.Given as goal

abbrev pub invariant-loop-number : goal.invariant-loop-number
invariant-loop-number l = l.all.items ≡ replicate l.number passed.Good
