-- What the loop `s` of the cycle `statements` in src/loops.rt keeps.

use Rattle.std.proofs.Common.{◌≡◌, ◌+◌, drop, vec_len}
use Rattle.ls_checked.specs.Plain.{statements_of}
use Rattle.ls_refs.specs.Loops.{block_loops}
use Rattle.ls_refs.proofs.loops.+statements.Given as goal

abbrev pub invariant-put_block_loops-loop-s : goal.invariant-put_block_loops-loop-s
invariant-put_block_loops-loop-s l =
    vec_len l.out + block_loops (statements_of (drop l.s-index l.statements)) ≡ vec_len l.initial.out + block_loops
    (statements_of l.statements)
