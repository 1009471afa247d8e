-- What walks cost.
use Rattle.std.proofs.Common.{◌≡◌, ◌⊎◌, inl, inr, ℕ, ◌<◌, ◌≤◌, ◌+◌, Bool, true, List, [], ◌∷◌, ◌++◌, Some, refl, sym}
use Rattle.std.proofs.Common.{◌∙◌}
use Rattle.std.proofs.Common.{subst, arith}
use Rattle.std.specs.Prelude.{slice_get}
use Rattle.ls_graph.specs.declared.closing.Edge.{Edge}
use Rattle.ls_graph.specs.declared.costs.Counted.{Counted}
use Rattle.ls_graph.specs.Costs.{cost, costs}
use Rattle.ls_graph.specs.Walks.{AreCosts, CostAtLeast, IsLeast, Walks, actors_of, cost_along, cost_at}

module _ (counted : Counted) (known : List (List ℕ)) (actors least : ℕ) (edges : List Edge)
    (are : AreCosts counted known actors least edges) where
  -- a node is told to be no dearer than so much, or so much is no less than the least
  abbrev Within : ℕ → ℕ → ℕ → Type 0
  Within last at spent = (cost_at counted known last at ≤ spent) ⊎ (least ≤ spent)

  -- along a walk so much more is spent
  within_along : (path : List Edge) (before at to spent : ℕ) → before < actors → Within before at spent →
      Walks edges at path to →
      (last : ℕ) × (last < actors) × Within last to (spent + costs counted before (actors_of path))
  within_along [] before at to spent less h walks =
      (before, less, subst (Within before to) (omega arith) (subst (λ k. Within before k spent) walks h))
  within_along (e ∷ path) before at to spent less h walks =
      let is = are walks.0.0 e walks.0.1 in
      let k : ℕ = spent + cost counted before e.actor in
      let by_cost : cost_at counted known before e.from ≤ spent →
      (cost_at counted known e.actor e.to ≤ cost_along counted known before e) ⊎
      (least ≤ cost_along counted known before e) → Within e.actor e.to k = λ few. elim [
        | inl c ↦ inl (omega (arith, few, c))
        | inr l ↦ inr (omega (arith, few, l))
      ] in
      let by_spent : Within before e.from spent → Within e.actor e.to k = elim [
        | inl few ↦ by_cost few (is.no_cheaper before less)
        | inr l ↦ inr (omega (arith, l))
      ] in
      let rest = within_along path e.actor e.to to k is.actor
      (by_spent (subst (λ j. Within before j spent) (sym walks.1) h)) walks.2 in
      (rest.0, rest.1, subst (Within rest.0 to) (omega arith) rest.2)

  pub none_cheaper : (count : ℕ) (marks : List Bool) → 0 < actors → cost_at counted known 0 0 ≡ 0 →
      CostAtLeast counted known actors count marks least →
      IsLeast counted edges count marks least
  none_cheaper count marks some root all path to within walks = by_marks (all to within)
    where
      h : (last : ℕ) × (last < actors) × Within last to (0 + costs counted 0 (actors_of path))
      h = within_along path 0 0 to 0 some (inl (omega (arith, root))) walks

      by_within : least ≤ cost_at counted known h.0 to → Within h.0 to (0 + costs counted 0 (actors_of path)) →
          least ≤ costs counted 0 (actors_of path)
      by_within far (inl few) = omega (arith, far, few)
      by_within far (inr l) = omega (arith, l)

      by_marks : (slice_get marks to ≡ Some true)
          ⊎ ((last : ℕ) → last < actors → least ≤ cost_at counted known last to) →
          (slice_get marks to ≡ Some true) ⊎ (least ≤ costs counted 0 (actors_of path))
      by_marks (inl marked) = inl marked
      by_marks (inr far) = inr (by_within (far h.0 h.1) h.2)
