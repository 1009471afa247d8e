-- What the loop `s` of the cycle `statements` in src/statements.rt keeps, and why the cycle ends.

use Rattle.std.proofs.Common.{◌≡◌, ◌+◌, ◌*◌, ◌^◌, map, drop}
use Rattle.ls_checked.specs.Plain.{plain_statement as checked_statement, statements_of as checked_statements}
use Rattle.ls_checked.specs.Plain.{plain_class}
use Rattle.ls_lowered.specs.Plain.{in_front}
use Rattle.ls_refs.specs.Temporaries.{block_temporaries}
use Rattle.ls_refs.specs.Lowered.{lowered_block}
use Rattle.ls_refs.specs.Loops.{JumpBelow}
use Rattle.ls_refs.proofs.Sizes.{size, sizes}
use Rattle.ls_refs.proofs.statements.+statements.Given as goal

abbrev pub decreases-lower_statement : goal.decreases-lower_statement
decreases-lower_statement l = 4 * size (checked_statement l.s.now)

abbrev pub decreases-lower_part : goal.decreases-lower_part
decreases-lower_part l = 4 * size (checked_statement l.s.now) + 1

abbrev pub decreases-lower_if : goal.decreases-lower_if
decreases-lower_if l = 4 * (size (checked_statement l.first.now) + size (checked_statement l.second.now)) + 2

abbrev pub decreases-lower_while : goal.decreases-lower_while
decreases-lower_while l = 4 * size (checked_statement l.body.now) + 2

abbrev pub decreases-lower_try : goal.decreases-lower_try
decreases-lower_try l = 4 * (size (checked_statement l.body.now) + size (checked_statement l.finally.now)) + 2

abbrev pub decreases-lower_block : goal.decreases-lower_block
decreases-lower_block l = 4 * sizes (checked_statements l.statements.now) + 1

abbrev pub invariant-lower_block-loop-s : goal.invariant-lower_block-loop-s
invariant-lower_block-loop-s l =
    (l.next + block_temporaries (checked_statements (drop l.s-index l.statements)) ≡ l.free + block_temporaries
    (checked_statements l.statements))
    × (in_front l.lowered.items (lowered_block (map plain_class l.classes) l.next
    (checked_statements (drop l.s-index l.statements)))
    ≡ lowered_block (map plain_class l.classes) l.free (checked_statements l.statements))
    × JumpBelow (2 ^ 63) (checked_statements (drop l.s-index l.statements))
