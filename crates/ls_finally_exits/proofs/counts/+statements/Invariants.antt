-- What the loop `s` of the cycle `statements` in src/counts.rt keeps, and why the cycle ends.

use Rattle.std.proofs.Common.{◌≡◌, ◌+◌, ◌*◌, drop, vec_len}
use Rattle.ls_lowered.specs.Plain.{plain_statement, statements_of}
use Rattle.ls_finally_copies.proofs.Weights.{size, sizes}
use Rattle.ls_finally_exits.specs.Numbers.{all_numbers}
use Rattle.ls_finally_exits.proofs.counts.+statements.Given as goal

abbrev pub decreases-put_numbers : goal.decreases-put_numbers
decreases-put_numbers l = 4 * size (plain_statement l.s.now)

abbrev pub decreases-put_leavable : goal.decreases-put_leavable
decreases-put_leavable l = 4 * (size (plain_statement l.body.now) + sizes (statements_of l.own.now)) + 2

abbrev pub decreases-put_all_numbers : goal.decreases-put_all_numbers
decreases-put_all_numbers l = 4 * sizes (statements_of l.statements.now) + 1

abbrev pub invariant-put_all_numbers-loop-s : goal.invariant-put_all_numbers-loop-s
invariant-put_all_numbers-loop-s l =
    vec_len l.out + all_numbers (statements_of (drop l.s-index l.statements)) ≡ vec_len l.initial.out + all_numbers
    (statements_of l.statements)
