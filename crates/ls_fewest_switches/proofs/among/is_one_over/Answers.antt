-- Why `is_one_over` in src/among.rt keeps its contract.

use Rattle.std.proofs.Common.{◌≡◌, true, ℕ, List, Some, drop, get_or, map, sym, ◌∙◌, subst, rules}
use Rattle.ls_events.specs.declared.event.Event.{Event}
use Rattle.ls_fewest_switches.specs.Along.{is_whole}
use Rattle.ls_fewest_switches.specs.Among.{history_at}
use Rattle.ls_fewest_switches.proofs.Lefts.{one_whole}
use Rattle.ls_fewest_switches.proofs.among.is_one_over.Goals as goal

pub returns-then-is_over : goal.returns-then-is_over
returns-then-is_over c =
    let histories : List (List Event) = map (λ v. v.items) c.args.histories.now in
    let done : ℕ = c.args.noted.now.done in
    let i : ℕ = c.loop-at.at-index in
    let whole = sym c.is_over.ensures ∙ c.if-is_over.true in
    sym (one_whole histories done c.args.noted.now.which.items i (search rules)
    (subst (λ (l : List ℕ). is_whole (Some (drop done (history_at histories (get_or l i 0)))) ≡ true)
    c.deref-at-items.ensures.value
    (subst (λ (h : List Event). is_whole (Some (drop done h)) ≡ true) c.history_at.ensures whole)))
