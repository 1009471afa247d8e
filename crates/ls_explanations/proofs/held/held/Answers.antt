-- Why `held` in src/held.rt keeps its contract.

use Rattle.std.proofs.Common.{◌∙◌, ap}
use Rattle.std.specs.Prelude.{filter}
use Rattle.std.specs.BTreeSet.{contains}
use Rattle.std.specs.Ordering.{int_cmp}
use Rattle.std.proofs.lemmas.Result.{IfOk-weaker}
use Rattle.ls_orders.specs.Rules.{is_present}
use Rattle.ls_explanations.proofs.HeldLemmas.{filtered_alike}
use Rattle.ls_explanations.proofs.held.held.Goals as goal

pub returns : goal.returns
returns c =
    let calls = c.args.calls.now in
    let is_in = contains int_cmp c.in_ok-set.set in
    IfOk-weaker c.those_in.result _ _ (λ kept h. h
    ∙ ap (filter is_in) (c.as_slice.ensures.value ∙ c.in_ok-added.ensures)
    ∙ filtered_alike is_in (λ item. is_present item calls) _ c.in_ok-set.ensures) c.those_in.ensures
