-- Walks by the edges that found nodes.
use Rattle.std.proofs.Common.{◌≡◌, ◌⊎◌, inl, inr, ℕ, zero, suc, ◌<◌, ◌≤◌, ◌+◌, ◌-◌, true, Bool, List, [], ◌∷◌, ◌++◌}
use Rattle.std.proofs.Common.{length, reverse, get_or, Some, refl}
use Rattle.std.proofs.Common.{sym, ap, ◌∙◌, subst, arith}
use Rattle.std.specs.Prelude.{slice_get}
use Rattle.std.proofs.lemmas.List.{reverse-append}
use Rattle.std.proofs.lemmas.Option.{slice_get-get_or}
use Rattle.ls_graph.specs.Found.{AreFound, HasAny, HaveAny, IsFoundBy}
use Rattle.ls_graph.specs.Walks.{IsOne, Walks}
use Rattle.ls_graph.specs.declared.closing.Edge.{Edge}
use Rattle.ls_graph.proofs.Lists.{below, some_is, there}

-- one edge more before a walk that was found from its end
pub walks_more : (edges : List Edge) (at place : ℕ) (e : Edge) (path path' : List Edge) → IsOne edges e → e.to ≡ place →
    Walks edges place (reverse path) at →
    path' ≡ path ++ e ∷ [] →
    Walks edges e.from (reverse path') at
walks_more edges at place e path path' one to walks more =
    let turned : reverse path' ≡ e ∷ reverse path = ap reverse more ∙ reverse-append path (e ∷ []) in
    subst (λ p. Walks edges e.from p at) (sym turned)
    (one, refl, subst (λ k. Walks edges k (reverse path) at) (sym to) walks)

module _ (edges : List Edge) (count : ℕ) (by : List ℕ) (found : AreFound edges count by) (at : ℕ) (past : 0 < at)
    (within : at < count) where
  -- the edge by which a node was found that isn't the first
  pub is_found : (k : ℕ) → k + 1 ≡ at → (place : ℕ) → slice_get by k ≡ Some place → IsFoundBy edges at place
  is_found k is place here = subst (λ n. IsFoundBy edges n place) is (found.each k place here)

  pub within_by : at - 1 < length by
  within_by = omega (arith, found.many, past, within)

  -- by the place that is read
  pub is_at : (place : ℕ) → place ≡ get_or by (at - 1) place → IsFoundBy edges at place
  is_at place is =
      is_found (at - 1) (omega (arith, past)) place (slice_get-get_or by (at - 1) place within_by ∙ ap Some (sym is))

  -- and by the edge that is read there
  pub edge_here : (place : ℕ) (e : Edge) → place ≡ get_or by (at - 1) place → e ≡ get_or edges place e →
      slice_get edges place ≡ Some e
  edge_here place e is read =
      let f : IsFoundBy edges at place = is_at place is in
      slice_get-get_or edges place e (below edges place f.edge f.here) ∙ ap Some (sym read)

  pub edge_is : (place : ℕ) (e : Edge) → (is : place ≡ get_or by (at - 1) place) → e ≡ get_or edges place e →
      e ≡ (is_at place is).edge
  edge_is place e is read = some_is (sym (edge_here place e is read) ∙ (is_at place is).here)

-- one more edge from whose node a mark is set
pub marks_more : (edges : List Edge) (marks marks' : List Bool) (i : ℕ) (e : Edge) → slice_get edges i ≡ Some e →
    HaveAny edges marks →
    ((n : ℕ) → slice_get marks' n ≡ Some true → (n ≡ e.from) ⊎ (slice_get marks n ≡ Some true)) →
    HaveAny edges marks'
marks_more edges marks marks' i e here have only at marked = by_place (only at marked)
  where
    by_place : (at ≡ e.from) ⊎ (slice_get marks at ≡ Some true) →
        HasAny edges at
    by_place (inl same) = (i, e, here, sym same)
    by_place (inr old) = have at old

-- ---- a walk to each node

-- one edge more at the end
walks_end : (edges : List Edge) (from : ℕ) (path : List Edge) (e : Edge) (to : ℕ) → Walks edges from path e.from →
    IsOne edges e →
    e.to ≡ to →
    Walks edges from (path ++ e ∷ []) to
walks_end edges from [] e to walks one is = (one, sym walks, is)
walks_end edges from (x ∷ path) e to walks one is = (walks.0, walks.1, walks_end edges x.to path e to walks.2 one is)

walk_within : (edges : List Edge) (count : ℕ) (by : List ℕ) → AreFound edges count by → (fuel at : ℕ) → at < fuel →
    at < count →
    (path : List Edge) × Walks edges 0 path at
walk_within edges count by found zero at less within = absurd (omega (arith, less))
walk_within edges count by found (suc fuel) zero less within = ([], refl)
walk_within edges count by found (suc fuel) (suc k) less within =
    let place = there by k (omega (arith, found.many, within)) in
    let is : IsFoundBy edges (k + 1) place.0 = found.each k place.0 place.1 in
    let before =
    walk_within edges count by found fuel is.edge.from (omega (arith, is.earlier, less))
    (omega (arith, is.earlier, within)) in (
      before.0 ++ is.edge ∷ [],
      walks_end edges 0 before.0 is.edge (suc k) before.1 (place.0, is.here) (omega (arith, is.to_is)),
    )

pub walk_to : (edges : List Edge) (count : ℕ) (by : List ℕ) → AreFound edges count by → (at : ℕ) → at < count →
    (path : List Edge) × Walks edges 0 path at
walk_to edges count by found at within = walk_within edges count by found (at + 1) at (omega arith) within
