-- What the loop `s` of the cycle `statements` in src/needs.rt keeps, and why the cycle ends.

use Rattle.std.proofs.Common.{◌≡◌, ◌+◌, ◌*◌, ◌≤◌, drop}
use Rattle.std.specs.Prelude.{max}
use Rattle.ls_lowered.specs.Plain.{plain_statement, statements_of}
use Rattle.ls_emit.specs.Needs.{statements_need}
use Rattle.ls_emit.specs.Statements.{statements_size}
use Rattle.ls_emit.proofs.Weights.{weight, weights}
use Rattle.ls_emit.proofs.needs.+statements.Given as goal

abbrev pub invariant-statements_need-loop-s : goal.invariant-statements_need-loop-s
invariant-statements_need-loop-s l =
    (max l.most (statements_need (statements_of (drop l.s-index l.statements))) ≡ statements_need
    (statements_of l.statements))
    × (l.most + statements_size (statements_of (drop l.s-index l.statements)) ≤ statements_size
    (statements_of l.statements))
    × (weights (statements_of (drop l.s-index l.statements)) ≤ weights (statements_of l.statements))

abbrev pub decreases-statement_need : goal.decreases-statement_need
decreases-statement_need l = 2 * weight (plain_statement l.s.now)

abbrev pub decreases-statements_need : goal.decreases-statements_need
decreases-statements_need l = 2 * weights (statements_of l.statements.now) + 1
