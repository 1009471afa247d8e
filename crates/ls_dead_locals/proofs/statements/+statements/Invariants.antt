-- What the loop of the cycle `statements` in src/statements.rt keeps: the local is dead before the statements from `i`
-- on as `dead` says.

use Rattle.std.proofs.Common.{◌≡◌, drop}
use Rattle.ls_checked.specs.Plain.{statements_of}
use Rattle.ls_dead_locals.specs.Dead.{are_dead}
use Rattle.ls_dead_locals.proofs.statements.+statements.Given as goal

abbrev pub invariant-are_dead-loop-i : goal.invariant-are_dead-loop-i
invariant-are_dead-loop-i l = l.dead ≡ are_dead l.slot (statements_of (drop l.i l.ss)) l.ways
