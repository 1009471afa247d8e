-- What the loops `s` and `x` of the cycle `statements` in src/sizes.rt keep.

use Rattle.std.proofs.Common.{◌≡◌, ◌+◌, ◌≤◌, drop}
use Rattle.std.specs.Prelude.{min}
use Rattle.ls_lowered.specs.Plain.{statements_of}
use Rattle.ls_emit.specs.Statements.{statements_size, exits_size}
use Rattle.ls_emit.proofs.sizes.+statements.Given as goal

abbrev pub invariant-count_statements-loop-s : goal.invariant-count_statements-loop-s
invariant-count_statements-loop-s l =
    (l.count ≤ 65537)
    × (min (l.count + statements_size (statements_of (drop l.s-index l.statements))) 65537 ≡ min
    (l.so_far + statements_size (statements_of l.statements)) 65537)

abbrev pub invariant-count_exits-loop-x : goal.invariant-count_exits-loop-x
invariant-count_exits-loop-x l =
    (l.count ≤ 65537)
    × (min (l.count + exits_size (statements_of (drop l.x-index l.exits))) 65537 ≡ min
    (l.so_far + exits_size (statements_of l.exits)) 65537)
