-- What the loop `at` of `are_exchanged_at` in src/exchanges.rt keeps.

use Rattle.std.proofs.Common.{◌<◌, ℕ, map}
use Rattle.ls_checked.specs.PlainProgram.{plain_thread}
use Rattle.ls_exchanged.specs.Doubles.{IsExchangedAt}
use Rattle.ls_exchanged.proofs.exchanges.are_exchanged_at.Given as goal

abbrev pub invariant-loop-at : goal.invariant-loop-at
invariant-loop-at l =
    (t : ℕ) → t < l.at → IsExchangedAt (map plain_thread l.first) (map plain_thread l.second) l.place t
