-- Why `first_turning` in src/leading.rt keeps its clause `none`.
use Rattle.std.proofs.Common.{◌≡◌, ℕ, List, Bool, Some, true, sym, ap, ◌∙◌, subst}
use Rattle.std.specs.Prelude.{slice_get}
use Rattle.ls_graph.specs.declared.closing.Edge.{Edge}
use Rattle.ls_spinning.specs.Heard.{AreHeard, EachIsHeard}
use Rattle.ls_spinning.proofs.Marking.{heard_loud, none_map}
use Rattle.ls_spinning.proofs.leading.first_turning.Goals as goal

pub returns-clause-none : goal.returns-clause-none
returns-clause-none c =
    let loud : List Bool = c.args.loud.items in
    let edges : List Edge = c.args.graph.now.edges.items in
    let marks : List Bool = c.spread_all.new.marks.items in
    let after : AreHeard loud edges marks =
    subst (λ (es : List Edge). AreHeard loud es loud → AreHeard loud es marks) c.deref.ensures.value
    (c.in_ok-spread_all.ensures loud) (heard_loud loud edges) in
    none_map ((i : ℕ) (e : Edge) → slice_get c.deref-2.result.now i ≡ Some e →
    slice_get c.deref-3.result.now e.from ≡ Some true) (EachIsHeard loud edges) c.first_left.result
    (λ all i e here.
    after e.from
    (ap (λ (l : List Bool). slice_get l e.from) (sym c.deref-3.ensures.value)
    ∙ all i e (ap (λ (l : List Edge). slice_get l i) c.deref-2.ensures.value ∙ here))) c.first_left.ensures.none
