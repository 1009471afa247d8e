-- Where walks of a graph of states lead.
use Rattle.std.proofs.Common.{◌≡◌, ℕ, ◌+◌, List, [], ◌∷◌, Some, sym, ap, ◌∙◌, subst, replicate}
use Rattle.std.specs.Prelude.{slice_get}
use Rattle.std.specs.List.{fold}
use Rattle.std.proofs.lemmas.List.Sums.{fold-append}
use Rattle.ls_events.specs.declared.event.Event.{Event}
use Rattle.ls_checked.specs.CheckedTree.{File}
use Rattle.ls_checked.specs.CheckedProgram.{Program}
use Rattle.ls_graph.specs.declared.closing.Edge.{Edge}
use Rattle.ls_graph.specs.Graph.{AreEdges, IsEdge}
use Rattle.ls_graph.specs.Walks.{Walks}
use Rattle.ls_graph.proofs.Lists.{some_is}
use Rattle.ls_search_laws.specs.Noticing.{Noticed, noticed_after}
use Rattle.ls_search.specs.Graphs.{steps_along}
use Rattle.ls_search.specs.Searched.{HidesNames, IsLike}
use Rattle.ls_search.specs.Space.{GoesTo}
use Rattle.ls_search.proofs.Likeness.{like_both, like_fold, like_same}
use Rattle.ls_search.proofs.Reaching.{reaches_fold}

module _ {S : Type 0} (first : S) (next : S → Event → S) (file : File) (program : Program) (hides : HidesNames next)
    (states : List (Noticed S)) (edges : List Edge) (led : AreEdges (GoesTo first next file program) states edges)
  where
    abbrev After : Noticed S → List ℕ → Noticed S
    After p ts = fold (noticed_after first next file program) p ts

    -- an edge's steps
    pub edge_like : (e : Edge) (is : IsEdge (GoesTo first next file program) states e) →
        IsLike is.other (After is.one (replicate (e.mark + 1) e.actor))
    edge_like e is = reaches_fold first next file program is.one is.other e.actor e.mark is.leads.reaches

    -- and a walk's
    pub walk_like : (path : List Edge) (at to : ℕ) (p q : Noticed S) → slice_get states at ≡ Some p →
        slice_get states to ≡ Some q →
        Walks edges at path to →
        IsLike q (After p (steps_along path))
    walk_like [] at to p q here there walks = like_same q p (some_is (sym here ∙ ap (slice_get states) walks ∙ there))
    walk_like (e ∷ path) at to p q here there walks =
        let is : IsEdge (GoesTo first next file program) states e = led walks.0.0 e walks.0.1 in
        let one : is.one ≡ p = some_is (sym is.here ∙ ap (slice_get states) walks.1 ∙ here) in
        let reps : List ℕ = replicate (e.mark + 1) e.actor in
        let after : IsLike is.other (After p (replicate (e.mark + 1) e.actor)) =
        subst (λ (x : Noticed S). IsLike is.other (After x (replicate (e.mark + 1) e.actor))) one (edge_like e is) in
        subst (IsLike q) (sym (fold-append (noticed_after first next file program) p reps (steps_along path)))
        (like_both q (After is.other (steps_along path)) (After (After p reps) (steps_along path))
        (walk_like path e.to to is.other q is.there there walks.2)
        (like_fold first next file program hides is.other (After p reps) after (steps_along path)))
