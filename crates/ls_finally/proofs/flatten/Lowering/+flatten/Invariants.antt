-- What the loop `s` of the cycle `Lowering::flatten` in src/flatten.rt keeps, and why the cycle ends.

use Rattle.std.proofs.Common.{◌+◌, ◌*◌, drop}
use Rattle.ls_lowered.specs.Plain.{plain_statement, statements_of}
use Rattle.ls_finally.proofs.Flattening.{Flattening}
use Rattle.ls_finally_copies.proofs.Weights.{size, sizes}
use Rattle.ls_finally.proofs.flatten.Lowering.+flatten.Given as goal

abbrev pub decreases-flatten : goal.decreases-flatten
decreases-flatten l = 4 * size (plain_statement l.s.now)

abbrev pub decreases-flat_all : goal.decreases-flat_all
decreases-flat_all l = 4 * sizes (statements_of l.statements.now) + 1

abbrev pub decreases-flat_part : goal.decreases-flat_part
decreases-flat_part l = 4 * size (plain_statement l.s.now) + 1

abbrev pub decreases-flat_two : goal.decreases-flat_two
decreases-flat_two l = 4 * (size (plain_statement l.first.now) + size (plain_statement l.second.now)) + 2

abbrev pub decreases-flat_leavable : goal.decreases-flat_leavable
decreases-flat_leavable l = 4 * (size (plain_statement l.body.now) + sizes (statements_of l.own.now)) + 3

abbrev pub decreases-flat_try : goal.decreases-flat_try
decreases-flat_try l = 4 * (size (plain_statement l.body.now) + size (plain_statement l.finally.now)) + 3

abbrev pub invariant-flat_all-loop-s : goal.invariant-flat_all-loop-s
invariant-flat_all-loop-s l = Flattening l.fn.self.free l.fn.self.count l.statements l.out.items l.self.free
    l.self.count (drop l.s-index l.statements)
