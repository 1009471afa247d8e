-- How often the actor changes, and what steps cost.
use Rattle.std.proofs.Common.{◌≡◌, ◌≢◌, ◌≤◌, ◌+◌, ◌⊎◌, inl, inr, ℕ, zero, suc, true, false, List, [], ◌∷◌, Some, length}
use Rattle.std.proofs.Common.{refl, ap, arith}
use Rattle.std.specs.Prelude.{nat_eq, if◌then◌else◌, drop, slice_get}
use Rattle.std.proofs.lemmas.Bool.Decides.{eqb_tells}
use Rattle.ls_graph.specs.declared.costs.Counted.{Counted}
use Rattle.ls_graph.specs.declared.costs.Counted.TheVariants as counted
use Rattle.ls_graph.specs.Costs.{change, changes, cost, costs}
use Rattle.ls_graph.proofs.Lists.{drop_next}

change_tells : (b t : ℕ) → ((change b t ≡ 0) × (t ≡ b)) ⊎ ((change b t ≡ 1) × (t ≢ b))
change_tells b t = by (eqb_tells t b)
  where
    by : ((nat_eq t b ≡ true) × (t ≡ b)) ⊎ ((nat_eq t b ≡ false) × (t ≢ b)) →
        ((change b t ≡ 0) × (t ≡ b)) ⊎ ((change b t ≡ 1) × (t ≢ b))
    by (inl (e, same)) = inl (ap (λ x. if x then 0 else 1) e, same)
    by (inr (e, other)) = inr (ap (λ x. if x then 0 else 1) e, other)

change_triangle : (a b c : ℕ) → change a c ≤ change a b + change b c
change_triangle a b c = by (change_tells a b) (change_tells a c)
  where
    by : ((change a b ≡ 0) × (b ≡ a)) ⊎ ((change a b ≡ 1) × (b ≢ a)) →
        ((change a c ≡ 0) × (c ≡ a)) ⊎ ((change a c ≡ 1) × (c ≢ a)) → change a c ≤ change a b + change b c
    by (inl (e, same)) d = let is : change b c ≡ change a c = ap (λ n. change n c) same in omega (arith, is)
    by (inr (e, other)) (inl (d, same)) = omega (arith, d)
    by (inr (e, other)) (inr (d, differs)) = omega (arith, d, e)

triangle : (k : Counted) (a b c : ℕ) → cost k a c ≤ cost k a b + cost k b c
triangle counted.Changes a b c = change_triangle a b c
triangle counted.Steps a b c = omega arith

-- a step that is left out costs nothing
pub sooner : (k : Counted) (before u : ℕ) (us : List ℕ) → costs k before us ≤ cost k before u + costs k u us
sooner k before u [] = omega arith
sooner k before u (v ∷ us) = let t = triangle k before u v in omega (arith, t)

-- changes of actor, where those are counted
pub costs_changes : (before : ℕ) (s : List ℕ) → costs counted.Changes before s ≡ changes before s
costs_changes before [] = refl
costs_changes before (t ∷ ts) = let h = costs_changes t ts in omega (arith, h)

-- steps, where those are counted
pub costs_steps : (before : ℕ) (s : List ℕ) → costs counted.Steps before s ≡ length s
costs_steps before [] = refl
costs_steps before (t ∷ ts) = let h = costs_steps t ts in omega (arith, h)

-- ---- a list, item by item

one_more : (i : ℕ) → i + 1 ≡ suc i
one_more i = omega arith

-- one more of the changes of steps is counted
pub count_next : (steps : List ℕ) (i before t count more : ℕ) → slice_get steps i ≡ Some t →
    changes 0 steps ≡ count + changes before (drop i steps) →
    more ≡ change before t →
    changes 0 steps ≡ (count + more) + changes t (drop (i + 1) steps)
count_next steps i before t count more here so_far is =
    let next : changes before (drop i steps) ≡ change before t + changes t (drop (suc i) steps) =
    ap (changes before) (drop_next steps i t here) in
    let last : changes t (drop (i + 1) steps) ≡ changes t (drop (suc i) steps) =
    ap (λ n. changes t (drop n steps)) (one_more i) in
    omega (arith, so_far, next, last, is)
