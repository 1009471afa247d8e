-- What the loop `at` of `have_many` in src/objects.rt keeps.

use Rattle.std.proofs.Common.{◌≤◌, take}
use Rattle.ls_transitions.specs.Seen.{table_of}
use Rattle.ls_search.specs.Listed.{objects_of}
use Rattle.ls_search.proofs.objects.have_many.Given as goal

abbrev pub invariant-loop-at : goal.invariant-loop-at
invariant-loop-at l = l.objects ≤ objects_of (table_of l.transitions) (take l.at l.nodes)
