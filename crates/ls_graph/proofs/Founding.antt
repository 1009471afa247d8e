-- By which edges nodes are found, while a graph grows.
use Rattle.std.proofs.Common.{◌≡◌, ◌⊎◌, inl, inr, ℕ, zero, suc, ◌<◌, ◌≤◌, ◌+◌, true, Bool, List, [], ◌∷◌, ◌++◌}
use Rattle.std.proofs.Common.{length, Some, sym, ap}
use Rattle.std.proofs.Common.{◌∙◌, subst, arith}
use Rattle.std.specs.Prelude.{slice_get}
use Rattle.std.proofs.lemmas.List.{length-append}
use Rattle.ls_graph.specs.Grown.{Keeps, Stands}
use Rattle.ls_graph.specs.Found.{AreFound, AreFromLooked, AreOnce, HasNone, HasNoneBy, IsFoundBy, IsGrown, LeavesMore}
use Rattle.ls_graph.specs.Found.{LeavesMoreBy}
use Rattle.ls_graph.specs.declared.closing.Edge.{Edge}
use Rattle.ls_graph.specs.declared.closing.Graph.{Graph}
use Rattle.ls_graph.proofs.Lists.{below, keeps_pushed, last_there, pushed_cases, pushed_where}

found_by_still : (es es' : List Edge) (to place : ℕ) → Keeps es es' → IsFoundBy es to place → IsFoundBy es' to place
found_by_still es es' to place keeps h = record {
  edge = h.edge;
  here = keeps place h.edge h.here;
  to_is = h.to_is;
  earlier = h.earlier;
}

-- the same nodes, and more edges
found_still : (es es' : List Edge) (count count' : ℕ) (by by' : List ℕ) → Keeps es es' → count' ≡ count → by' ≡ by →
    AreFound es count by →
    AreFound es' count' by'
found_still es es' count count' by by' keeps many same h = record {
  many = ap (λ l. length l + 1) same ∙ h.many ∙ sym many;
  each = λ i place at.
      found_by_still es es' (i + 1) place keeps (h.each i place (subst (λ l. slice_get l i ≡ Some place) same at));
}

-- one node more, which an edge found that is new
found_more : (es es' : List Edge) (e : Edge) (count count' : ℕ) (by by' : List ℕ) → es' ≡ es ++ e ∷ [] →
    count' ≡ count + 1 →
    by' ≡ by ++ length es ∷ [] →
    e.to ≡ count →
    e.from < count →
    AreFound es count by →
    AreFound es' count' by'
found_more es es' e count count' by by' more many longer to from h = record {
  many = let more = ap length longer in omega (arith, more, length-append by (length es ∷ []), h.many, many);
  each = λ i place at. by_place i place
      (pushed_where by (length es) i place (subst (λ l. slice_get l i ≡ Some place) longer at));
}
  where
    by_place : (i place : ℕ) → (slice_get by i ≡ Some place) ⊎ ((i ≡ length by) × (length es ≡ place)) →
        IsFoundBy es' (i + 1) place
    by_place i place (inl old) =
        found_by_still es es' (i + 1) place (subst (Keeps es) (sym more) (keeps_pushed es e)) (h.each i place old)
    by_place i place (inr (last, same)) = record {
      edge = e;
      here = ap (λ l. slice_get l place) more ∙ ap (slice_get (es ++ e ∷ [])) (sym same) ∙ last_there es e;
      to_is = omega (arith, to, h.many, last);
      earlier = omega (arith, from, h.many, last);
    }

-- one edge more, where its actor had none from there
once_more : (es es' : List Edge) (e : Edge) → es' ≡ es ++ e ∷ [] → HasNoneBy es e.from e.actor → AreOnce es →
    AreOnce es'
once_more es es' e more none once i j f g at_i at_j from actor =
    by_place (pushed_where es e i f (subst (λ l. slice_get l i ≡ Some f) more at_i))
    (pushed_where es e j g (subst (λ l. slice_get l j ≡ Some g) more at_j))
  where
    by_place : (slice_get es i ≡ Some f) ⊎ ((i ≡ length es) × (e ≡ f)) →
        (slice_get es j ≡ Some g) ⊎ ((j ≡ length es) × (e ≡ g)) → i ≡ j
    by_place (inl a) (inl b) = once i j f g a b from actor
    by_place (inl a) (inr (last, same)) =
        absurd (none i f a (from ∙ ap (λ (x : Edge). x.from) (sym same))
        (actor ∙ ap (λ (x : Edge). x.actor) (sym same)))
    by_place (inr (last, same)) (inl b) =
        absurd (none j g b (sym from ∙ ap (λ (x : Edge). x.from) (sym same))
        (sym actor ∙ ap (λ (x : Edge). x.actor) (sym same)))
    by_place (inr (p, same)) (inr (q, too)) = p ∙ sym q

module _ {N : Type 0} (g g' : Graph N) (grown : IsGrown g) where
  -- the same nodes and edges
  pub grown_still : g'.found.nodes.items ≡ g.found.nodes.items → g'.edges.items ≡ g.edges.items →
      g'.by.items ≡ g.by.items →
      IsGrown g'
  grown_still nodes edges by = record {
    found = found_still g.edges.items g'.edges.items _ _ g.by.items g'.by.items
        (λ n x e. ap (λ l. slice_get l n) edges ∙ e) (ap length nodes) by grown.found;
    once = subst AreOnce (sym edges) grown.once;
  }

  -- one edge more, and the node that it found if that is new
  pub grown_edge : (e : Edge) (n : N) → HasNoneBy g.edges.items e.from e.actor → e.from < length g.found.nodes.items →
      g'.edges.items ≡ g.edges.items ++ e ∷ [] →
      Stands g.found.nodes.items g'.found.nodes.items n e.to →
      (e.to < length g.found.nodes.items → g'.by.items ≡ g.by.items) →
      (length g.found.nodes.items ≤ e.to → g'.by.items ≡ g.by.items ++ length g.edges.items ∷ []) →
      IsGrown g'
  grown_edge e n none from edges stands known new = record {
    found = by_place stands;
    once = once_more g.edges.items g'.edges.items e edges none grown.once;
  }
    where
      by_place : Stands g.found.nodes.items g'.found.nodes.items n e.to →
          AreFound g'.edges.items (length g'.found.nodes.items) g'.by.items
      by_place (inl (same, old)) =
          found_still g.edges.items g'.edges.items _ _ g.by.items g'.by.items
          (subst (Keeps g.edges.items) (sym edges) (keeps_pushed g.edges.items e)) (ap length same)
          (known old) grown.found
      by_place (inr (more, last)) =
          found_more g.edges.items g'.edges.items e (length g.found.nodes.items) _ g.by.items g'.by.items edges
          (ap length more ∙ length-append g.found.nodes.items (n ∷ []))
          (new (omega (arith, last))) last from grown.found

-- no node but the first, and no edges
pub grown_alone : {N : Type 0} (g : Graph N) (n : N) → g.found.nodes.items ≡ n ∷ [] → g.edges.items ≡ [] →
    g.by.items ≡ [] →
    IsGrown g
grown_alone g n nodes edges by = record {
  found = record {
    many = let one = ap length nodes in let none = ap length by in omega (arith, one, none);
    each = λ i place at. absurd (none_there i place (subst (λ l. slice_get l i ≡ Some place) by at));
  };
  once = λ i j e f at. absurd (none_there i e (subst (λ l. slice_get l i ≡ Some e) edges at));
}
  where
    none_there : {A : Type 0} (i : ℕ) (x : A) → slice_get [] i ≡ Some x → ⊥
    none_there i x h = cc

-- ---- where edges lead from

pub more_still : (es : List Edge) (at actor : ℕ) → LeavesMoreBy es es at actor
more_still es at actor i e here = inl here

pub more_edge : (es es' : List Edge) (e : Edge) → es' ≡ es ++ e ∷ [] → LeavesMoreBy es es' e.from e.actor
more_edge es es' e more i f here = by_place (pushed_cases es e i f (subst (λ l. slice_get l i ≡ Some f) more here))
  where
    by_place : (slice_get es i ≡ Some f) ⊎ (e ≡ f) →
        (slice_get es i ≡ Some f) ⊎ ((f.from ≡ e.from) × (f.actor ≡ e.actor))
    by_place (inl old) = inl old
    by_place (inr same) = inr (ap (λ (x : Edge). x.from) (sym same), ap (λ (x : Edge). x.actor) (sym same))

-- each edge is an old one, or leads from this node by one of the first so many actors
abbrev pub LeavesBefore : List Edge → List Edge → ℕ → ℕ → Type 0
LeavesBefore old new at actors = (i : ℕ) (e : Edge) → slice_get new i ≡ Some e →
    (slice_get old i ≡ Some e) ⊎ ((e.from ≡ at) × (e.actor < actors))

-- none by the next of them yet
pub none_by : (old new : List Edge) (at actors : ℕ) → HasNone old at → LeavesBefore old new at actors →
    HasNoneBy new at actors
none_by old new at actors none before i e here from actor = by_place (before i e here)
  where
    by_place : (slice_get old i ≡ Some e) ⊎ ((e.from ≡ at) × (e.actor < actors)) → ⊥
    by_place (inl was) = none i e was from
    by_place (inr (here, less)) = omega (arith, less, actor)

pub before_more : (old new newer : List Edge) (at actors : ℕ) → LeavesBefore old new at actors →
    LeavesMoreBy new newer at actors →
    LeavesBefore old newer at (actors + 1)
before_more old new newer at actors before more i e here = by_new (more i e here)
  where
    Is : Type 0
    Is = (slice_get old i ≡ Some e) ⊎ ((e.from ≡ at) × (e.actor < actors + 1))

    by_old : (slice_get old i ≡ Some e) ⊎ ((e.from ≡ at) × (e.actor < actors)) → Is
    by_old (inl was) = inl was
    by_old (inr (from, less)) = inr (from, omega (arith, less))

    by_new : (slice_get new i ≡ Some e) ⊎ ((e.from ≡ at) × (e.actor ≡ actors)) → Is
    by_new (inl was) = by_old (before i e was)
    by_new (inr (from, actor)) = inr (from, omega (arith, actor))

pub before_all : (old new : List Edge) (at actors : ℕ) → LeavesBefore old new at actors → LeavesMore old new at
before_all old new at actors before i e here = by_place (before i e here)
  where
    by_place : (slice_get old i ≡ Some e) ⊎ ((e.from ≡ at) × (e.actor < actors)) →
        (slice_get old i ≡ Some e) ⊎ (e.from ≡ at)
    by_place (inl was) = inl was
    by_place (inr (from, less)) = inr from

-- none leads from a node that wasn't looked at
pub none_from : (es : List Edge) (looked : List Bool) (at : ℕ) → AreFromLooked es looked →
    (slice_get looked at ≡ Some true → ⊥) →
    HasNone es at
none_from es looked at from not i e here is = not (subst (λ k. slice_get looked k ≡ Some true) is (from i e here))

-- one node more that was looked at
pub from_more : (es es' : List Edge) (looked looked' : List Bool) (at : ℕ) → AreFromLooked es looked →
    LeavesMore es es' at →
    ((i : ℕ) → slice_get looked i ≡ Some true → slice_get looked' i ≡ Some true) →
    slice_get looked' at ≡ Some true →
    AreFromLooked es' looked'
from_more es es' looked looked' at from more stays here i e there = by_place (more i e there)
  where
    by_place : (slice_get es i ≡ Some e) ⊎ (e.from ≡ at) → slice_get looked' e.from ≡ Some true
    by_place (inl was) = stays e.from (from i e was)
    by_place (inr is) = subst (λ k. slice_get looked' k ≡ Some true) (sym is) here
