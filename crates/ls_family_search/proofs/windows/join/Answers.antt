-- Why `join` in src/windows.rt keeps its contract.

use Rattle.std.proofs.Common.{◌∙◌, ◌++◌, ◌∷◌, ap, Ok}
use Rattle.std.proofs.lemmas.Iterator.Adapters.{YieldsList-from_vec}
use Rattle.std.proofs.lemmas.Iterator.Consumers.{YieldsList-so_far, YieldsList-turn}
use Rattle.ls_family_search.proofs.Joined.{cut_at}
use Rattle.ls_family_search.specs.Windows.{all_pass}
use Rattle.ls_family_search.proofs.windows.join.Goals as goal

pub returns-in-Ends : goal.returns-in-Ends
returns-in-Ends g c =
    let gives = c.into_iter-outcome-iterator.ensures.into_iter_gives in
    let road = YieldsList-from_vec c.args.outcomes.items gives.0 (gives.1 ∙ c.args.outcomes.ok.0) in
    let so_far = YieldsList-so_far road c.loop-outcome.yielded c.loop-outcome.outcome-iterator
    c.loop-outcome.yielded_by in
    let turn = YieldsList-turn road c.loop-outcome.yielded c.loop-outcome.outcome-iterator c.loop-outcome.yielded_by
    c.next.result c.next.new.self c.in-Some.outcome c.in-Some.is c.next.ensures.steps in
    let cut = cut_at c.args.outcomes.items c.loop-outcome.yielded c.in-Some.outcome so_far turn.0 turn.1 in
    let is = c.in_ok-said.was ∙ ap (λ o. Ok o) c.in-Ends.is in
    let front = ap (λ l. l ++ c.in-Some.outcome ∷ cut.0) c.loop-outcome.invariant.1 in
    let one = ap (λ o. all_pass c.loop-outcome.invariant.0 ++ o ∷ cut.0) is in
    (c.loop-outcome.invariant.0, cut.0, cut.1 ∙ front ∙ one, c.loop-outcome.invariant.2)
