-- What the loop `work` of `copy_works` in src/searching.rt keeps.

use Rattle.std.proofs.Common.{◌≡◌, take}
use Rattle.ls_search.proofs.searching.copy_works.Given as goal

abbrev pub invariant-loop-work : goal.invariant-loop-work
invariant-loop-work l = l.copies.items ≡ take l.work-index l.works
