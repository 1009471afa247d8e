-- What the loop `number` of `are_kept` in src/reach.rt keeps.

use Rattle.std.proofs.Common.{◌≡◌, ℕ, ◌<◌, List, Some}
use Rattle.std.specs.Prelude.{slice_get, slice_index_or}
use Rattle.ls_choices.specs.Rows.{Row}
use Rattle.ls_choices.specs.Reaching.{IsStateKept}
use Rattle.ls_choices.specs.Seen.{graph_of}
use Rattle.ls_choices.proofs.reach.are_kept.Given as goal

abbrev pub invariant-loop-number : goal.invariant-loop-number
invariant-loop-number l = (n : ℕ) (rows : List Row) → n < l.number → slice_get (graph_of l.choices).rows n ≡ Some rows →
    IsStateKept l.steps l.count (λ k. slice_index_or l.depths k 0) l.total (slice_index_or l.depths n 0) rows
