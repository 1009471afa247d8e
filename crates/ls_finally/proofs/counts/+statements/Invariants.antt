-- What the loop `s` of the cycle `statements` in src/counts.rt keeps.

use Rattle.ls_lowered.specs.Limits.{most_locals}
use Rattle.std.proofs.Common.{◌≡◌, ◌+◌, ◌*◌, ◌≤◌, drop}
use Rattle.ls_lowered.specs.Plain.{statements_of}
use Rattle.ls_finally.specs.Flat.{all_tries}
use Rattle.ls_finally.proofs.counts.+statements.Given as goal

abbrev pub invariant-count_in_block-loop-s : goal.invariant-count_in_block-loop-s
invariant-count_in_block-loop-s l =
    (l.count ≤ most_locals) × (l.count + 2 * all_tries (statements_of (drop l.s-index l.statements)) ≡ l.so_far + 2 *
    all_tries (statements_of l.statements))
