-- What the loop `place` of `exchanged_place` in src/exchanges.rt keeps.

use Rattle.std.proofs.Common.{◌<◌, ℕ, map}
use Rattle.ls_checked.specs.PlainProgram.{plain_thread}
use Rattle.ls_exchanged.specs.Doubles.{HaveExchangedAt}
use Rattle.ls_exchanged.proofs.exchanges.exchanged_place.Given as goal

abbrev pub invariant-loop-place : goal.invariant-loop-place
invariant-loop-place l =
    (u : ℕ) → u < l.place → HaveExchangedAt (map plain_thread l.first) (map plain_thread l.second) u → ⊥
