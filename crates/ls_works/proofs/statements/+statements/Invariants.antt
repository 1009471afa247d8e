-- What the loop `i` of the cycle `statements` in src/statements.rt keeps.

use Rattle.std.proofs.Common.{◌≡◌, drop}
use Rattle.ls_checked.specs.Plain.{statements_of}
use Rattle.ls_works.proofs.statements.+statements.Given as goal

abbrev pub invariant-are_same_statements-loop-i : goal.invariant-are_same_statements-loop-i
invariant-are_same_statements-loop-i l =
    statements_of (drop l.i l.statements) ≡ statements_of (drop l.i l.others) →
    statements_of l.statements ≡ statements_of l.others
