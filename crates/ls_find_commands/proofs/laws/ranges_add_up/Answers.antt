-- Why `ranges_add_up` in src/laws.rt keeps its clauses `printed` and `sum`.

use Rattle.ls_find_commands.proofs.Sums.{found_in_both, printed_by, sums_agree}
use Rattle.ls_find_commands.proofs.laws.ranges_add_up.Goals as goal

pub returns-clause-printed : goal.returns-clause-printed
returns-clause-printed c = λ before to count f shown. printed_by before to count f.passed.items f.halted shown

pub returns-clause-sum : goal.returns-clause-sum
returns-clause-sum c = λ sought states reference classes p from mid to count f g all first next one. (
  found_in_both sought states reference classes p from mid to f g all first next one,
  sums_agree sought states reference classes p from mid to count f g all first one,
)
