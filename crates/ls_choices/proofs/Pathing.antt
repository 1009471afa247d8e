-- Paths with one more, by the edge that found the next node.
use Rattle.std.proofs.Common.{◌≡◌, ◌<◌, ◌+◌, ◌++◌, ◌∷◌, ℕ, List, [], length, Some, sym, ap, ◌∙◌, subst, get_or, arith}
use Rattle.std.specs.Prelude.{slice_get}
use Rattle.std.proofs.lemmas.Option.{slice_get-get_or}
use Rattle.ls_graph.specs.Found.{AreFound}
use Rattle.ls_graph.specs.Grown.{Keeps}
use Rattle.ls_graph.specs.declared.closing.Edge.{Edge}
use Rattle.ls_graph.proofs.Lists.{below, keeps_pushed, last_there, some_is}
use Rattle.ls_choices.specs.Paths.{IsPathBy}
use Rattle.ls_choices.proofs.Walking.{up_to}

module _ (edges : List Edge) (count : ℕ) (by : List ℕ) (found : AreFound edges count by) (i place : ℕ)
    (at : slice_get by i ≡ Some place) where
  pub place_below : place < length edges
  place_below = below edges place (found.each i place at).edge (found.each i place at).here

  module _ (e : Edge) (read : e ≡ get_or edges place e) where
    pub edge_there : slice_get edges place ≡ Some e
    edge_there = slice_get-get_or edges place e place_below ∙ ap Some (sym read)

    same_edge : (found.each i place at).edge ≡ e
    same_edge = some_is (sym (found.each i place at).here ∙ edge_there)

    pub edge_earlier : e.from < i + 1
    edge_earlier = subst (λ (k : Edge). k.from < i + 1) same_edge (found.each i place at).earlier

    pub edge_to : e.to ≡ i + 1
    edge_to = subst (λ (k : Edge). k.to ≡ i + 1) same_edge (found.each i place at).to_is

pub keeps_one : {A : Type 0} (xs ys : List A) (x : A) → ys ≡ xs ++ x ∷ [] → Keeps xs ys
keeps_one xs ys x is = subst (Keeps xs) (sym is) (keeps_pushed xs x)

kept_path : (edges : List Edge) (paths more : List (List ℕ)) (place to : ℕ) → Keeps paths more →
    IsPathBy edges paths place to → IsPathBy edges more place to
kept_path edges paths more place to keeps is = record {
  edge = is.edge;
  here = is.here;
  to_is = is.to_is;
  earlier = is.earlier;
  before = is.before;
  before_is = keeps is.edge.from is.before is.before_is;
  is = keeps to (is.before ++ is.edge.actor ∷ []) is.is;
}

pub more_path : (edges : List Edge) (by : List ℕ) (paths more : List (List ℕ)) (i place : ℕ) (e : Edge)
    (before path : List ℕ) →
    length paths ≡ i + 1 →
    slice_get by i ≡ Some place →
    slice_get edges place ≡ Some e →
    e.to ≡ i + 1 →
    e.from < i + 1 →
    slice_get paths e.from ≡ Some before →
    path ≡ before ++ e.actor ∷ [] →
    more ≡ paths ++ path ∷ [] →
    ((k p : ℕ) → k < i → slice_get by k ≡ Some p → IsPathBy edges paths p (k + 1)) →
    (k p : ℕ) →
    k < i + 1 →
    slice_get by k ≡ Some p →
    IsPathBy edges more p (k + 1)
more_path edges by paths more i place e before path many at here to earlier before_is path_is more_is old =
    let keeps : Keeps paths more = keeps_one paths more path more_is in
    let last : slice_get more (i + 1) ≡ Some path =
    ap (λ l. slice_get l (i + 1)) more_is ∙ ap (slice_get (paths ++ path ∷ [])) (sym many) ∙ last_there paths path in
    up_to (λ k p. IsPathBy edges more p (k + 1)) by i place at
    (record {
      edge = e;
      here = here;
      to_is = to;
      earlier = earlier;
      before = before;
      before_is = keeps e.from before before_is;
      is = last ∙ ap Some path_is;
    })
    (λ k p less there. kept_path edges paths more p (k + 1) keeps (old k p less there))
