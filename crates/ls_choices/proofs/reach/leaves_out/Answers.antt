-- Why `leaves_out` in src/reach.rt keeps its contract and its loop `rows`.

use Rattle.std.proofs.Common.{◌∙◌, ap, arith, length, refl, sym, subst, Some}
use Rattle.std.specs.Prelude.{map, slice_get}
use Rattle.std.proofs.lemmas.List.{length-map}
use Rattle.std.proofs.lemmas.Option.{slice_get-get_or}
use Rattle.ls_transitions.proofs.Keeping.{below, stands}
use Rattle.ls_choices.specs.Reaching.{IsCutOff, LeavesOut}
use Rattle.ls_choices.specs.Seen.{graph_of, row_of}
use Rattle.ls_choices.proofs.Cutting.{none_left_out, not_both}
use Rattle.ls_choices.proofs.Walking.{up_to}
use Rattle.ls_choices.proofs.reach.leaves_out.Goals as goal

pub loop-rows-preserved : goal.loop-rows-preserved
loop-rows-preserved c =
    let all = c.args.choices.now.rows.items in
    let i = c.loop-rows.rows-index in
    let item = c.rows-item.result in
    let whole : ¬ IsCutOff c.args.count (map row_of c.deref.result.now) = λ cut.
    not_both (c.is_cut_off.ensures.1 cut) c.if-is_cut_off.false in
    up_to (λ n rows. ¬ IsCutOff c.args.count rows) (map (λ v. map row_of v.items) all) i (map row_of item.items)
    (stands (λ v. map row_of v.items) all i item (map row_of item.items)
    (ap (λ l. slice_get l i) (sym c.deref-rows-items.ensures.value)
    ∙ slice_get-get_or c.deref-rows-items.result.now i item c.loop-rows-test.true ∙ ap Some (sym c.rows-item.is)) refl)
    (subst (λ l. ¬ IsCutOff c.args.count (map row_of l)) c.deref.ensures.value whole)
    c.loop-rows.invariant

pub returns : goal.returns
returns c =
    let g = graph_of c.args.choices.now in
    let all = c.args.choices.now.rows.items in
    let whole : ¬ LeavesOut c.args.count g = none_left_out c.args.count g (λ n rows at.
    let within = below g.rows n rows at in
    c.loop-rows.invariant n rows (omega (
      arith,
      within,
      length-map all (λ v. map row_of v.items),
      ap length c.deref-rows-items.ensures.value,
      c.loop-rows-test.false,
    )) at) in
    (λ no. absurd cc, λ left. absurd (whole left))
