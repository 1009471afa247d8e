-- What the loop of `marks_of` in src/giving.rt keeps.

use Rattle.std.proofs.Common.{◌≡◌, ◌≤◌}
use Rattle.ls_checked.specs.Plain.{plain_file}
use Rattle.ls_guarded.specs.Giving.{marks_within}
use Rattle.ls_guarded.proofs.giving.marks_of.Given as goal

abbrev pub invariant-loop : goal.invariant-loop
invariant-loop l = (l.marks.items ≡ marks_within l.how (plain_file l.file) l.counter) × (l.counter ≤ l.end)
