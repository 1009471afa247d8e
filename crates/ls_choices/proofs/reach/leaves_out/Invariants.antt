-- What the loop `rows` of `leaves_out` in src/reach.rt keeps.

use Rattle.std.proofs.Common.{◌≡◌, ℕ, ◌<◌, List, Some}
use Rattle.std.specs.Prelude.{slice_get}
use Rattle.ls_choices.specs.Rows.{Row}
use Rattle.ls_choices.specs.Reaching.{IsCutOff}
use Rattle.ls_choices.specs.Seen.{graph_of}
use Rattle.ls_choices.proofs.reach.leaves_out.Given as goal

abbrev pub invariant-loop-rows : goal.invariant-loop-rows
invariant-loop-rows l = (n : ℕ) (rows : List Row) → n < l.rows-index →
    slice_get (graph_of l.choices).rows n ≡ Some rows → ¬ IsCutOff l.count rows
