-- What the loop `s` of the cycle `statements` in src/counts.rt keeps.

use Rattle.ls_lowered.specs.Limits.{most_locals}
use Rattle.std.proofs.Common.{◌≡◌, ◌+◌, ◌≤◌, drop}
use Rattle.ls_checked.specs.Plain.{statements_of}
use Rattle.ls_refs.specs.Temporaries.{block_taken}
use Rattle.ls_refs.proofs.counts.+statements.Given as goal

abbrev pub invariant-count_statements-loop-s : goal.invariant-count_statements-loop-s
invariant-count_statements-loop-s l =
    (l.count ≤ most_locals) × (l.count + block_taken (statements_of (drop l.s-index l.statements)) ≡ l.so_far +
    block_taken (statements_of l.statements))
