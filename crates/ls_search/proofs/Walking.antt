-- Steps along walks of a graph of states.
use Rattle.std.proofs.Common.{◌≡◌, ℕ, suc, ◌+◌, ◌≤◌, List, ◌∷◌, ◌++◌, length, drop, Some, sym, ap, ◌∙◌, arith}
use Rattle.std.proofs.Common.{replicate}
use Rattle.std.proofs.Common.{append_assoc, append-nil}
use Rattle.std.specs.Prelude.{slice_get}
use Rattle.std.proofs.lemmas.List.{drop_all}
use Rattle.ls_graph.specs.declared.closing.Edge.{Edge}
use Rattle.ls_graph.proofs.Lists.{drop_next}
use Rattle.ls_search.specs.Graphs.{steps_along}

one_more : (i : ℕ) → i + 1 ≡ suc i
one_more i = omega arith

-- one edge more
pub along_more : (path : List Edge) (i : ℕ) (e : Edge) (steps steps' : List ℕ) → slice_get path i ≡ Some e →
    steps_along path ≡ steps ++ steps_along (drop i path) →
    steps' ≡ steps ++ replicate (e.mark + 1) e.actor →
    steps_along path ≡ steps' ++ steps_along (drop (i + 1) path)
along_more path i e steps steps' here so_far more =
    so_far
    ∙ ap (λ p. steps ++ steps_along p) (drop_next path i e here ∙ ap (λ n. e ∷ drop n path) (sym (one_more i)))
    ∙ sym (append_assoc steps (replicate (e.mark + 1) e.actor) (steps_along (drop (i + 1) path)))
    ∙ ap (λ s. s ++ steps_along (drop (i + 1) path)) (sym more)

-- after the last
pub along_all : (path : List Edge) (i : ℕ) (steps : List ℕ) → steps_along path ≡ steps ++ steps_along (drop i path) →
    length path ≤ i →
    steps ≡ steps_along path
along_all path i steps so_far past =
    sym (so_far ∙ ap (λ p. steps ++ steps_along p) (drop_all i path past) ∙ append-nil steps)
