-- Why `loud_of` in src/sounding.rt keeps its loop, and what it calls with.
use Rattle.std.proofs.Common.{◌≡◌, ◌<◌, ◌⊎◌, Bool, List, Some, length, true, sym, ap, ◌∙◌, subst}
use Rattle.std.specs.Prelude.{slice_get, slice_index_or}
use Rattle.std.proofs.lemmas.Option.{slice_get-get_or}
use Rattle.ls_graph.specs.declared.closing.Edge.{Edge}
use Rattle.ls_transitions.specs.Seen.{table_of}
use Rattle.ls_transitions.specs.Tables.{Table}
use Rattle.ls_transitions.proofs.Growing.{grows_on}
use Rattle.ls_search.specs.declared.space.Kept.{Kept}
use Rattle.ls_spinning.specs.States.{AreThere, IsLoud, IsSilent, place_of}
use Rattle.ls_spinning.proofs.Loud.{all_there, loud_more}
use Rattle.ls_spinning.proofs.sounding.loud_of.Goals as goal

pub mark_loud-requires-clause-there : goal.mark_loud-requires-clause-there
mark_loud-requires-clause-there c =
    subst (AreThere (table_of c.loop-edge.transitions)) (sym c.deref.ensures.value)
    (all_there (table_of c.args.transitions.now) (table_of c.loop-edge.transitions) c.loop-edge.invariant.grows
    c.args.graph.now.found.nodes.items c.requires.there)

pub mark_loud-requires-clause-within : goal.mark_loud-requires-clause-within
mark_loud-requires-clause-within c =
    let none : Edge = record { from = 0; to = 0; mark = 0; actor = 0 } in
    let i = c.loop-edge.edge-index in
    let e : Edge = slice_index_or c.deref-edge-items.result.now i none in
    subst (λ (ns : List Kept). e.from < length ns) (sym c.deref.ensures.value)
    (c.requires.within i e
    (ap (λ (es : List Edge). slice_get es i) (sym c.deref-edge-items.ensures.value)
    ∙ slice_get-get_or c.deref-edge-items.result.now i none c.loop-edge-test.true))

pub loop-edge-preserved : goal.loop-edge-preserved
loop-edge-preserved c =
    let t : Table = table_of c.args.transitions.now in
    let t' : Table = table_of c.loop-edge.transitions in
    let nodes : List Kept = c.args.graph.now.found.nodes.items in
    let edges : List Edge = c.args.graph.now.edges.items in
    let none : Edge = record { from = 0; to = 0; mark = 0; actor = 0 } in
    let i = c.loop-edge.edge-index in
    let e : Edge = slice_index_or c.deref-edge-items.result.now i none in
    let here : slice_get edges i ≡ Some e =
    ap (λ (es : List Edge). slice_get es i) (sym c.deref-edge-items.ensures.value)
    ∙ slice_get-get_or c.deref-edge-items.result.now i none c.loop-edge-test.true in
    let marks : List Bool = c.loop-edge.marks.items in
    let marks' : List Bool = c.mark_loud.new.marks.items in
    let did = c.in_ok-mark_loud.ensures in
    record {
      grows = grows_on t t' (table_of c.mark_loud.new.transitions) c.loop-edge.invariant.grows did.grows;
      loud = loud_more t t' c.loop-edge.invariant.grows nodes c.requires.there edges i e here
          (c.requires.within i e here) marks marks'
          (λ at marked.
          subst (λ (ns : List Kept). (slice_get marks at ≡ Some true)
          ⊎ ((at ≡ e.from) × ((n : Kept) → slice_get ns at ≡ Some n → IsLoud t'.file (place_of t' n) e.actor)))
          c.deref.ensures.value (did.only at marked)) did.stays
          (subst (λ (ns : List Kept). (n : Kept) → slice_get ns e.from ≡ Some n →
          (slice_get marks' e.from ≡ Some true) ⊎ IsSilent t'.file (place_of t' n) e.actor) c.deref.ensures.value
          did.here) c.loop-edge.invariant.loud;
    }
