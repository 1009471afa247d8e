-- Why `going_on` in src/among.rt keeps its loop `at`.

use Rattle.std.proofs.Common.{◌≡◌, ◌+◌, inl, inr, ℕ, List, Option, None, Some, drop, get_or, map, sym, ap, ◌∙◌, subst}
use Rattle.std.proofs.Common.{rules}
use Rattle.std.specs.Prelude.{IfSome, slice_get}
use Rattle.std.proofs.lemmas.Option.{slice_get-get_or}
use Rattle.ls_events.specs.declared.event.Event.{Event}
use Rattle.ls_fewest_switches.specs.Along.{left_from, left_of}
use Rattle.ls_fewest_switches.specs.Among.{lefts_at}
use Rattle.ls_fewest_switches.proofs.Lefts.{none_kept, one_kept}
use Rattle.ls_fewest_switches.proofs.among.going_on.Goals.{in-Some+in_ok-push, in_default}
use Rattle.ls_fewest_switches.proofs.among.going_on.Goals as goal

pub loop-at-preserved : goal.loop-at-preserved
loop-at-preserved c =
    let histories : List (List Event) = map (λ v. v.items) c.args.histories.now in
    let done : ℕ = c.args.noted.now.done in
    let e : Event = c.args.event.now in
    let which : List ℕ = c.args.noted.now.which.items in
    let i : ℕ = c.loop-at.at-index in
    let at : ℕ = get_or c.deref-at-items.result.now i 0 in
    let here : slice_get which i ≡ Some at =
    ap (λ l. slice_get l i) (sym c.deref-at-items.ensures.value)
    ∙ slice_get-get_or c.deref-at-items.result.now i 0 (search rules) in
    let history : List Event = c.history_at.result.now in
    let kept : List ℕ = c.loop-at.which.items in
    let inv = c.loop-at.invariant in
    elim c.match-come_after.branch [
      | in-Some+in_ok-push w ↦
          let count : w.in-Some.count ≡ done + 1 =
          subst (λ (o : Option ℕ). IfSome o (λ n. n ≡ done + 1)) w.in-Some.is c.come_after.ensures.one in
          let left : Some (drop w.in-Some.count history) ≡ left_of (drop done history) e =
          ap (left_from history) (sym w.in-Some.is) ∙ c.come_after.ensures.left in
          record {
            left = ap (λ v. lefts_at histories (done + 1) v.items) w.which-is
                ∙ ap (lefts_at histories (done + 1)) w.in_ok-push.ensures.items
                ∙ one_kept histories done e which i at here kept inv.left w.in-Some.count
                (subst (λ (h : List Event). Some (drop w.in-Some.count h) ≡ left_of (drop done h) e)
                c.history_at.ensures left)
                count;
            count = inr (w.done-is ∙ count);
          }
      | in_default w ↦
          let left : None ≡ left_of (drop done history) e =
          ap (left_from history) (sym w.in_default.is) ∙ c.come_after.ensures.left in
          record {
            left = ap (λ v. lefts_at histories (done + 1) v.items) w.which-is
                ∙ none_kept histories done e which i at here kept inv.left
                (subst (λ (h : List Event). None ≡ left_of (drop done h) e) c.history_at.ensures left);
            count = elim inv.count [
              | inl none ↦ inl (ap (λ v. v.items) w.which-is ∙ none)
              | inr same ↦ inr (w.done-is ∙ same)
            ];
          }
    ]
