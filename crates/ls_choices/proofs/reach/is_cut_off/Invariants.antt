-- What the loop `thread` of `is_cut_off` in src/reach.rt keeps.

use Rattle.std.proofs.Common.{◌≢◌, ℕ, ◌<◌, None}
use Rattle.std.specs.Prelude.{map}
use Rattle.ls_choices.specs.Reaching.{target_in}
use Rattle.ls_choices.specs.Seen.{row_of}
use Rattle.ls_choices.proofs.reach.is_cut_off.Given as goal

abbrev pub invariant-loop-thread : goal.invariant-loop-thread
invariant-loop-thread l = (t : ℕ) → t < l.thread → target_in (map row_of l.rows) t ≢ None
