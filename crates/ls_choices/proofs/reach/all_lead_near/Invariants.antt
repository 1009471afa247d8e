-- What the loop `row` of `all_lead_near` in src/reach.rt keeps.

use Rattle.std.proofs.Common.{◌≡◌, ℕ, ◌<◌, Some}
use Rattle.std.specs.Prelude.{map, slice_get, slice_index_or}
use Rattle.ls_choices.specs.Rows.{Row}
use Rattle.ls_choices.specs.Reaching.{LeadsNear}
use Rattle.ls_choices.specs.Seen.{row_of}
use Rattle.ls_choices.proofs.reach.all_lead_near.Given as goal

abbrev pub invariant-loop-row : goal.invariant-loop-row
invariant-loop-row l = (t : ℕ) (row : Row) → t < l.row-index → slice_get (map row_of l.rows) t ≡ Some row →
    LeadsNear (λ n. slice_index_or l.depths n 0) l.total l.here row
