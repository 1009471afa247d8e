-- What the loop `s` of the cycle `Counting::count` in src/counting.rt keeps, and why the cycle ends.

use Rattle.std.proofs.Common.{◌≡◌, ◌+◌, ◌*◌, ◌++◌, ◌≤◌, drop}
use Rattle.std.specs.Prelude.{min}
use Rattle.ls_lowered.specs.Plain.{plain_statement, statements_of}
use Rattle.ls_finally_copies.proofs.Weights.{size, sizes}
use Rattle.ls_linker.specs.Costs.{all_ways, all_copied, all_flat_size}
use Rattle.ls_linker.proofs.counting.Counting.+count.Given as goal

abbrev pub decreases-count : goal.decreases-count
decreases-count l = 4 * size (plain_statement l.s.now)

abbrev pub decreases-count_all : goal.decreases-count_all
decreases-count_all l = 4 * sizes (statements_of l.statements.now) + 1

abbrev pub decreases-count_two : goal.decreases-count_two
decreases-count_two l = 4 * (size (plain_statement l.first.now) + size (plain_statement l.second.now)) + 2

abbrev pub decreases-count_leavable : goal.decreases-count_leavable
decreases-count_leavable l = 4 * (size (plain_statement l.body.now) + sizes (statements_of l.own.now)) + 3

abbrev pub decreases-count_try : goal.decreases-count_try
decreases-count_try l = 4 * (size (plain_statement l.body.now) + size (plain_statement l.finally.now)) + 3

abbrev pub invariant-count_all-loop-s : goal.invariant-count_all-loop-s
invariant-count_all-loop-s l =
    (l.out.items ++ all_ways (statements_of (drop l.s-index l.statements)) ≡ l.initial.out.items ++
    all_ways (statements_of l.statements))
    × (l.self.copies + all_copied (statements_of (drop l.s-index l.statements)) ≡ l.fn.self.copies + all_copied
    (statements_of l.statements))
    × (min (l.self.length + all_flat_size (statements_of (drop l.s-index l.statements))) 65537 ≡ min
    (l.fn.self.length + all_flat_size (statements_of l.statements)) 65537)
    × (l.self.copies ≤ 4096)
    × (l.self.length ≤ 65537)
