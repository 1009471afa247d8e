-- Why `paths_to` in src/paths.rt keeps its contract and its loop `place`, and reads within the lists.

use Rattle.std.proofs.Common.{◌≡◌, ◌+◌, ◌∙◌, ◌∷◌, [], ◌++◌, ℕ, List, ap, arith, length, length-append, map, Some, subst}
use Rattle.std.proofs.Common.{sym}
use Rattle.std.specs.Prelude.{slice_get, slice_index_or}
use Rattle.std.proofs.lemmas.List.{length-map, map-append}
use Rattle.std.proofs.lemmas.Option.{slice_get-get_or}
use Rattle.ls_graph.proofs.Lists.{below, map_there}
use Rattle.ls_choices.proofs.Pathing.{edge_earlier, edge_there, edge_to, keeps_one, more_path, place_below}
use Rattle.ls_choices.proofs.paths.paths_to.Goals as goal

pub index-edge-requires : goal.index-edge-requires
index-edge-requires g c =
    let graph = c.args.graph.now in
    let i = c.loop-place.place-index in
    let bys = c.deref-place-items.result.now in
    let place = slice_index_or bys i 0 in
    let at : slice_get graph.by.items i ≡ Some place =
    subst (λ l. slice_get l i ≡ Some place) c.deref-place-items.ensures.value
    (slice_get-get_or bys i 0 c.loop-place-test.true) in
    let within = place_below graph.edges.items (length graph.found.nodes.items) graph.by.items c.requires i place at in
    omega (arith, within, graph.edges.ok.0)

pub index-requires : goal.index-requires
index-requires g c =
    let graph = c.args.graph.now in
    let i = c.loop-place.place-index in
    let bys = c.deref-place-items.result.now in
    let place = slice_index_or bys i 0 in
    let at : slice_get graph.by.items i ≡ Some place =
    subst (λ l. slice_get l i ≡ Some place) c.deref-place-items.ensures.value
    (slice_get-get_or bys i 0 c.loop-place-test.true) in
    let earlier =
    edge_earlier graph.edges.items (length graph.found.nodes.items) graph.by.items c.requires i place at
    c.index-edge.result.now c.index-edge.ensures in
    omega (arith, earlier, c.loop-place.invariant.many, c.loop-place.paths.ok.0)

pub loop-place-preserved : goal.loop-place-preserved
loop-place-preserved g c =
    let graph = c.args.graph.now in
    let edges = graph.edges.items in
    let count = length graph.found.nodes.items in
    let by = graph.by.items in
    let i = c.loop-place.place-index in
    let bys = c.deref-place-items.result.now in
    let place = slice_index_or bys i 0 in
    let at : slice_get by i ≡ Some place =
    subst (λ l. slice_get l i ≡ Some place) c.deref-place-items.ensures.value
    (slice_get-get_or bys i 0 c.loop-place-test.true) in
    let e = c.index-edge.result.now in
    let earlier = edge_earlier edges count by c.requires i place at e c.index-edge.ensures in
    let old = c.loop-place.paths.items in
    let paths : List (List ℕ) = map (λ p. p.items) old in
    let kept = c.index.result.now in
    let new = c.in_ok-path.path in
    let inv = c.loop-place.invariant in
    let pushed : c.push-in-loop-place.new.self.items ≡ old ++ new ∷ [] = c.in_ok-push-2.ensures.items in
    let more : List (List ℕ) = map (λ p. p.items) c.push-in-loop-place.new.self.items in
    let more_is : more ≡ paths ++ new.items ∷ [] =
    ap (map (λ p. p.items)) pushed ∙ map-append (λ p. p.items) old (new ∷ []) in
    let many : length paths ≡ i + 1 = length-map old (λ p. p.items) ∙ inv.many in
    let before_is : slice_get paths e.from ≡ Some kept.items =
    map_there (λ p. p.items) old e.from kept
    (slice_get-get_or old e.from kept (omega (arith, earlier, inv.many)) ∙ ap Some (sym c.index.ensures)) in
    record {
      many = omega (arith, inv.many, ap length pushed, length-append old (new ∷ []));
      begins = keeps_one paths more new.items more_is 0 c.args.first.now inv.begins;
      each = more_path edges by paths more i place e kept.items new.items many at
          (edge_there edges count by c.requires i place at e c.index-edge.ensures)
          (edge_to edges count by c.requires i place at e c.index-edge.ensures) earlier before_is
          (c.in_ok-path.ensures ∙ ap (λ l. l ++ e.actor ∷ []) c.deref.ensures.value) more_is inv.each;
    }

pub returns : goal.returns
returns g c =
    let by = c.args.graph.now.by.items in
    let inv = c.loop-place.invariant in
    let all : c.loop-place.place-index ≡ length by =
    omega (
      arith,
      c.loop-place-test.false,
      c.loop-place.auto.place-index-end,
      ap length c.deref-place-items.ensures.value,
    ) in
    record {
      many = omega (arith, inv.many, all, length-map c.loop-place.paths.items (λ p. p.items));
      begins = inv.begins;
      each = λ i place at. inv.each i place (let less = below by i place at in omega (arith, less, all)) at;
    }
