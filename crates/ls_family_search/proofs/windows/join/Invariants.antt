-- What the loop `outcome` of `join` in src/windows.rt keeps.

use Rattle.std.proofs.Common.{◌≡◌, List, ◌++◌}
use Rattle.ls_family_search.specs.Windows.{all_pass}
use Rattle.ls_family_search.specs.declared.judging.Passed.{Passed}
use Rattle.ls_family_search.proofs.windows.join.Given as goal

abbrev pub invariant-loop-outcome : goal.invariant-loop-outcome
invariant-loop-outcome g l =
    (ps : List Passed) × (l.yielded ≡ all_pass ps) × (l.passed.items ≡ l.fn.passed.items ++ ps)
