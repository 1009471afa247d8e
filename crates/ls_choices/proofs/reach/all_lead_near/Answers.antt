-- Why `all_lead_near` in src/reach.rt keeps its contract and its loop `row`.

use Rattle.std.proofs.Common.{◌<◌, ◌∙◌, length, arith, ap, refl, sym, Some}
use Rattle.std.specs.Prelude.{map, slice_index_or}
use Rattle.std.proofs.lemmas.List.{length-map}
use Rattle.std.proofs.lemmas.Option.{slice_get-get_or}
use Rattle.ls_transitions.proofs.Keeping.{below, stands}
use Rattle.ls_choices.specs.Reaching.{LeadsNear}
use Rattle.ls_choices.specs.Seen.{row_of}
use Rattle.ls_choices.proofs.Walking.{up_to}
use Rattle.ls_choices.proofs.reach.all_lead_near.Goals as goal

pub loop-row-preserved : goal.loop-row-preserved
loop-row-preserved c =
    let rows = c.args.rows.now in
    let i = c.loop-row.row-index in
    let row = c.row-item.result in
    up_to (λ t x. LeadsNear (λ n. slice_index_or c.args.depths.now n 0) c.args.total c.args.here x)
    (map row_of rows) i (row_of row)
    (stands row_of rows i row (row_of row)
    (slice_get-get_or rows i row c.loop-row-test.true ∙ ap Some (sym c.row-item.is)) refl)
    (c.if-not-leads_near.ensures refl) c.loop-row.invariant

pub returns : goal.returns
returns c = λ yes t row at.
    let rows = c.args.rows.now in
    let within : t < length rows = omega (arith, below (map row_of rows) t row at, length-map rows row_of) in
    c.loop-row.invariant t row (omega (arith, within)) at
