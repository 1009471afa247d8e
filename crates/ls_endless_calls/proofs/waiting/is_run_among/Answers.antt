-- Why `is_run_among` in src/waiting.rt keeps its contract and its loop `at`.

use Rattle.std.proofs.Common.{◌≡◌, ◌∙◌, List, ap, arith, false, subst, sym, true, Some}
use Rattle.std.proofs.lemmas.List.{length-map}
use Rattle.ls_events.specs.declared.event.Event.{Event}
use Rattle.ls_serial.proofs.Lists.{contains_get, get_within, is_get}
use Rattle.ls_serial_search.specs.Histories.{lists_of}
use Rattle.ls_endless_calls.specs.Waits.{IsRunTo}
use Rattle.ls_endless_calls.proofs.Places.{get_list, one_so}
use Rattle.ls_endless_calls.proofs.waiting.is_run_among.Goals as goal

not_true : false ≡ true → ⊥
not_true e = cc

pub loop-at-preserved : goal.loop-at-preserved
loop-at-preserved c =
    let at = is_get c.args.runs.now c.loop-at.at c.index-runs-at.result c.loop-at-test.true ∙
    ap Some (sym c.index-runs-at.is) in
    one_so (lists_of c.args.runs.now) (λ k run. IsRunTo run c.args.history.now c.args.call.now → ⊥) c.loop-at.at
    c.index-runs-at.result.items (get_list c.args.runs.now c.loop-at.at c.index-runs-at.result at) c.loop-at.invariant
    (λ to. not_true (c.if-is_run_to.ensures.1
    (subst (λ (run : List Event). IsRunTo run c.args.history.now c.args.call.now) (sym c.as_slice.ensures.value) to)))

pub returns : goal.returns
returns c = (
  λ up. absurd (not_true up),
  λ among.
      let at = contains_get (lists_of c.args.runs.now) among.run among.there in
      let within = get_within (lists_of c.args.runs.now) at.0 among.run at.1 in
      absurd (c.loop-at.invariant at.0 among.run
      (omega (arith, within, length-map c.args.runs.now (λ v. v.items), c.loop-at-test.false)) at.1 among.to),
)
