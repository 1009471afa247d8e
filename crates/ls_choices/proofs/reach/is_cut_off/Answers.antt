-- Why `is_cut_off` in src/reach.rt keeps its loop `thread`.

use Rattle.std.proofs.Common.{◌<◌, ◌≢◌, ◌∙◌, ap, arith, length, refl, sym, None, Some}
use Rattle.std.specs.Prelude.{is_some, map}
use Rattle.std.proofs.lemmas.Option.{slice_get-get_or}
use Rattle.ls_transitions.proofs.Keeping.{stands}
use Rattle.ls_choices.specs.Seen.{row_of}
use Rattle.ls_choices.specs.declared.rows.Row.{Row}
use Rattle.ls_choices.proofs.Cutting.{is_there, lead_more}
use Rattle.ls_choices.proofs.reach.is_cut_off.Goals as goal

pub loop-thread-preserved : goal.loop-thread-preserved
loop-thread-preserved c =
    let rows = c.args.rows.now in
    let i = c.loop-thread.thread in
    let row = c.index-rows-thread.result in
    let within : i < length rows = omega (arith, c.loop-thread-test.true, c.if-rows-count.false) in
    let some : row.to ≢ None = is_there row.to c.is_none.result
    (ap (λ (r : Row). is_some r.to) c.index-rows-thread.is ∙ c.is_none.ensures) c.if-is_none.false in
    lead_more (map row_of rows) i (row_of row)
    (stands row_of rows i row (row_of row) (slice_get-get_or rows i row within ∙ ap Some (sym c.index-rows-thread.is))
    refl) some c.loop-thread.invariant
