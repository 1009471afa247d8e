-- What the loop `i` of `seeds_from` in src/batching.rt keeps.

use Rattle.std.proofs.Common.{◌≡◌, ◌+◌, map}
use Rattle.std.specs.List.{range_with_len}
use Rattle.ls_batch.proofs.batching.seeds_from.Given as goal

abbrev pub invariant-loop-i : goal.invariant-loop-i
invariant-loop-i l = l.seeds.items ≡ map (λ i. l.first + i) (range_with_len 0 l.i)
