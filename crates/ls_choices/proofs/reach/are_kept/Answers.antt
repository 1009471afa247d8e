-- Why `are_kept` in src/reach.rt keeps its contract and its loop `number`.

use Rattle.std.proofs.Common.{◌≡◌, ◌∙◌, length, arith, ap, refl, rules, subst, sym, Some}
use Rattle.std.specs.Prelude.{map, slice_get, slice_index_or}
use Rattle.std.proofs.lemmas.List.{length-map}
use Rattle.std.proofs.lemmas.Option.{slice_get-get_or}
use Rattle.ls_transitions.proofs.Keeping.{below, stands}
use Rattle.ls_choices.specs.Reaching.{IsStateKept}
use Rattle.ls_choices.specs.Seen.{graph_of, row_of}
use Rattle.ls_choices.proofs.Walking.{up_to}
use Rattle.ls_choices.proofs.reach.are_kept.Goals as goal

pub loop-number-preserved : goal.loop-number-preserved
loop-number-preserved c =
    let all = c.args.choices.now.rows.items in
    let slice = c.deref-rows-items.result.now in
    let i = c.loop-number.number in
    let item = c.rows-item.result in
    let kept = c.if-not-is_state_kept.ensures refl in
    up_to (λ n rows. IsStateKept c.args.steps c.args.count (λ k. slice_index_or c.args.depths.now k 0)
    c.len-total.result (slice_index_or c.args.depths.now n 0) rows)
    (map (λ v. map row_of v.items) all) i (map row_of item.items)
    (stands (λ v. map row_of v.items) all i item (map row_of item.items)
    (ap (λ l. slice_get l i) (sym c.deref-rows-items.ensures.value)
    ∙ slice_get-get_or slice i item c.loop-number-test.true ∙ ap Some (sym c.rows-item.is)) refl)
    (subst (λ l. IsStateKept c.args.steps c.args.count (λ k. slice_index_or c.args.depths.now k 0) c.len-total.result
    (slice_index_or c.args.depths.now i 0) (map row_of l)) c.deref.ensures.value
    (subst (λ h. IsStateKept c.args.steps c.args.count (λ k. slice_index_or c.args.depths.now k 0) c.len-total.result
    h (map row_of c.deref.result.now)) c.depth_of-here.ensures kept))
    c.loop-number.invariant

pub returns : goal.returns
returns c = λ yes.
    let all = c.args.choices.now.rows.items in
    let total : c.len-total.result ≡ length all = search rules in
    let mapped : length (map (λ v. map row_of v.items) all) ≡ length all = length-map all (λ v. map row_of v.items) in
    let slice : length c.deref-rows-items.result.now ≡ length all = ap length c.deref-rows-items.ensures.value in
    record {
      begins = omega (arith, total, mapped);
      first = sym c.depth_of.ensures ∙ c.if-depth_of-ne0.false;
      states = λ n rows at.
          let within = below (graph_of c.args.choices.now).rows n rows at in
          subst (λ t. IsStateKept c.args.steps c.args.count (λ k. slice_index_or c.args.depths.now k 0) t
          (slice_index_or c.args.depths.now n 0) rows) (total ∙ sym mapped)
          (c.loop-number.invariant n rows (omega (arith, within, mapped, slice)) at);
    }
