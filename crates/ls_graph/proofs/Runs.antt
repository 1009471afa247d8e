-- Each run that is looked for has a walk that costs no more to a node that wasn't looked at.
use Rattle.std.proofs.Common.{◌≡◌, ◌⊎◌, inl, inr, ℕ, ◌<◌, ◌≤◌, ◌+◌, Bool, true, false, List, [], ◌∷◌, Some, length}
use Rattle.std.proofs.Common.{refl, sym}
use Rattle.std.proofs.Common.{ap, ◌∙◌, subst, arith}
use Rattle.std.specs.Prelude.{None, Option, slice_get}
use Rattle.std.specs.List.{fold}
use Rattle.ls_graph.specs.declared.closing.Edge.{Edge}
use Rattle.ls_graph.specs.declared.costs.Counted.{Counted}
use Rattle.ls_graph.specs.Costs.{cost, costs}
use Rattle.ls_graph.specs.Covering.{Covers}
use Rattle.ls_graph.specs.Graph.{HasEdge, IsEdge, IsGraph, IsTold, IsWhole}
use Rattle.ls_graph.specs.Walks.{IsLeast, Walks, actors_of}
use Rattle.ls_graph.proofs.Changes.{sooner}
use Rattle.ls_graph.proofs.Lists.{below, some_is}

-- whether a node was looked at
looked_or_not : (o : Option Bool) → (o ≡ Some true) ⊎ (o ≡ Some true → ⊥)
looked_or_not (Some true) = inl refl
looked_or_not (Some false) = inr (λ h. cc)
looked_or_not None = inr (λ h. cc)

module _ {S R : Type 0} (Rests : S → ℕ → Type 0) (Leads : S → ℕ → ℕ → S → Type 0) (Ends : S → Type 0)
    (Near : S → R → Type 0) (after : R → ℕ → R) (Bad : R → Type 0) (actors : ℕ)
    (covers : Covers Rests Leads Near after actors) (ends : (s : S) (r : R) → Near s r → Bad r → Ends s) (root : S)
    (states : List S) (edges : List Edge) (looked : List Bool)
    (graph : IsGraph Rests Leads Ends actors root states edges looked) (counted : Counted) where
  -- a walk that costs no more leads to a node that wasn't looked at
  record Leaves (at : ℕ) (us : List ℕ) : Type 0 where
    pub path : List Edge
    pub to : ℕ
    pub within : to < length states
    pub not_looked : slice_get looked to ≡ Some true → ⊥
    pub walks : Walks edges at path to
    pub cheap : (before : ℕ) → costs counted before (actors_of path) ≤ costs counted before us

  -- so it is of each run from any node that is near, where it is looked for
  abbrev Reaches : List ℕ → Type 0
  Reaches us = (at : ℕ) (s : S) (r : R) → slice_get states at ≡ Some s → Near s r → Bad (fold after r us) → Leaves at us

  -- one step more before it, along an edge
  along : (us : List ℕ) (next : Reaches us) (u at : ℕ) (s : S) (r : R) → slice_get states at ≡ Some s →
      ((m : ℕ) (s' : S) → Leads s u m s' → Near s' (after r u)) →
      Bad (fold after (after r u) us) →
      HasEdge edges at u →
      Leaves at (u ∷ us)
  along us next u at s r here leads bad has =
      let e : Edge = has.edge in
      let is : IsEdge Leads states e = graph.led has.place e has.here in
      let one : is.one ≡ s = some_is (sym is.here ∙ ap (slice_get states) has.from_is ∙ here) in
      let by_edge : Leads s e.actor e.mark is.other =
      subst (λ x. Leads x e.actor e.mark is.other) one is.leads in
      let near_to : Near is.other (after r u) =
      leads e.mark is.other (subst (λ v. Leads s v e.mark is.other) has.actor_is by_edge) in
      let rest = next e.to is.other (after r u) is.there near_to bad in
      record {
        path = e ∷ rest.path;
        to = rest.to;
        within = rest.within;
        not_looked = rest.not_looked;
        walks = ((has.place, has.here), has.from_is, rest.walks);
        cheap = λ before.
            let less = rest.cheap u in
            subst (λ v. cost counted before v + costs counted v (actors_of rest.path) ≤
            cost counted before u + costs counted u us)
            (sym has.actor_is) (omega (arith, less));
      }

  -- and one that leaves the node near
  aside : (us : List ℕ) (next : Reaches us) (u at : ℕ) (s : S) (r : R) → slice_get states at ≡ Some s →
      Near s (after r u) →
      Bad (fold after (after r u) us) →
      Leaves at (u ∷ us)
  aside us next u at s r here still bad =
      let rest = next at s (after r u) here still bad in
      record {
        path = rest.path;
        to = rest.to;
        within = rest.within;
        not_looked = rest.not_looked;
        walks = rest.walks;
        cheap = λ before.
            let less = rest.cheap u in
            let left = sooner counted before u (actors_of rest.path) in
            omega (arith, less, left);
      }

  -- and one from a node that wasn't looked at
  left_here : (us : List ℕ) (at : ℕ) → at < length states → (slice_get looked at ≡ Some true → ⊥) → Leaves at us
  left_here us at within not = record {
    path = [];
    to = at;
    within = within;
    not_looked = not;
    walks = refl;
    cheap = λ before. omega arith;
  }

  one_more : (us : List ℕ) (next : Reaches us) (u : ℕ) → Reaches (u ∷ us)
  one_more us next u at s r here near bad = by_looked (looked_or_not (slice_get looked at))
    where
      by_told : (Rests s u → Near s (after r u)) → ((m : ℕ) (s' : S) → Leads s u m s' → Near s' (after r u)) →
          IsTold Rests Ends edges at s u →
          Leaves at (u ∷ us)
      by_told still leads (inl rests) = aside us next u at s r here (still rests) bad
      by_told still leads (inr has) = along us next u at s r here leads bad has

      by_step : slice_get looked at ≡ Some true →
          Near s (after r u)
          ⊎ ((u < actors) × (Rests s u → Near s (after r u))
          × ((m : ℕ) (s' : S) → Leads s u m s' → Near s' (after r u))) →
          Leaves at (u ∷ us)
      by_step done (inl still) = aside us next u at s r here still bad
      by_step done (inr (within, still, leads)) =
          by_told still leads (((graph.told at done).1 s here).told u within)

      by_looked : (slice_get looked at ≡ Some true) ⊎ (slice_get looked at ≡ Some true → ⊥) → Leaves at (u ∷ us)
      by_looked (inl done) = by_step done (covers.step s r u near)
      by_looked (inr not) = left_here (u ∷ us) at (below states at s here) not

  all_left : (us : List ℕ) → Reaches us
  all_left [] at s r here near bad =
      left_here [] at (below states at s here) (λ done. ((graph.told at done).1 s here).no_end (ends s r near bad))
  all_left (u ∷ us) at s r here near bad = one_more us (all_left us) u at s r here near bad

  -- so each such run costs as much as the least walk to one
  pub at_least : (least : ℕ) (r : R) → Near root r → IsLeast counted edges (length states) looked least →
      (schedule : List ℕ) → Bad (fold after r schedule) → least ≤ costs counted 0 schedule
  at_least least r near is schedule bad =
      let h = all_left schedule 0 root r graph.begins near bad in
      let few = h.cheap 0 in
      let by_place : (slice_get looked h.to ≡ Some true) ⊎ (least ≤ costs counted 0 (actors_of h.path)) →
      least ≤ costs counted 0 schedule = elim [
        | inl done ↦ absurd (h.not_looked done)
        | inr far ↦ omega (arith, few, far)
      ] in
      by_place (is h.path h.to h.within h.walks)

  -- and where all were looked at, there is none
  pub none : (r : R) → Near root r → IsWhole (length states) looked →
      (schedule : List ℕ) → Bad (fold after r schedule) → ⊥
  none r near whole schedule bad =
      let h = all_left schedule 0 root r graph.begins near bad in
      h.not_looked (whole h.to h.within)
