-- Why `search_from` in src/graphs.rt keeps its contract and what it calls with.
use Rattle.std.proofs.Common.{◌≡◌, ◌⊎◌, inl, inr, ◌≤◌, ◌<◌, ℕ, List, length, map, refl, sym, ap}
use Rattle.std.proofs.Common.{◌∙◌, subst, arith}
use Rattle.std.specs.Prelude.{slice_get}
use Rattle.std.proofs.lemmas.List.{length-map}
use Rattle.ls_checked.specs.CheckedTree.{File}
use Rattle.ls_checked.specs.CheckedProgram.{Program}
use Rattle.ls_checked.specs.Plain.{plain_file}
use Rattle.ls_checked.specs.PlainProgram.{plain_program}
use Rattle.ls_graph.specs.Found.{AreFound}
use Rattle.ls_graph.specs.Graph.{IsWhole}
use Rattle.ls_graph.specs.Weights.{total}
use Rattle.ls_graph.proofs.Growing.{of_none, of_some}
use Rattle.ls_search_laws.specs.Noticing.{Noticed}
use Rattle.ls_transitions.specs.Seen.{table_of}
use Rattle.ls_transitions.specs.Tables.{Table}
use Rattle.ls_search.specs.declared.space.Kept.{Kept}
use Rattle.ls_search.specs.Answers.{root_of}
use Rattle.ls_search.specs.Closed.{HasClosed}
use Rattle.ls_search.specs.Graphs.{ActsAlong, HaveObjects, LeadsAlong, most_objects, states_at}
use Rattle.ls_search.specs.Searched.{noticed_at}
use Rattle.ls_search.specs.Tried.{HasTried}
use Rattle.ls_search.proofs.Closed.{has_closed}
use Rattle.ls_search.proofs.Told.{bad_there, file_of_placed, free, good, have_objects, noted, stuck_there}
use Rattle.ls_search.proofs.Telling.{closes_all, none_map, some_map}
use Rattle.ls_search.proofs.Trying.{has_tried}
use Rattle.ls_search.proofs.graphs.search_from.Goals as goal

pub first_bad-bad_at-requires : goal.first_bad-bad_at-requires
first_bad-bad_at-requires g c = record {
  noted = λ at n here.
      let stands = g.O.Observer.stands c.args.ground.now.observer.now in
      let values = c.in_ok-found.found.tables.pool.values.items in
      let placed =
      c.in_ok-found.ensures.placed at n (ap (λ l. slice_get l at) (sym c.deref.ensures.value) ∙ here) in
      omega (arith, placed.node.noted_there, length-map values stands);
}

pub first_stuck-requires : goal.first_stuck-requires
first_stuck-requires g c = record {
  wide = λ at n here.
      let placed = c.in_ok-found.ensures.placed at n here in
      (placed.node.numbers, placed.node.width);
}

pub returns-clause-closes : goal.returns-clause-closes
returns-clause-closes g c = λ complete.
    let o = c.args.ground.now.observer.now in
    let first = g.O.Observer.first o in
    let next = g.O.Observer.next o in
    let is_bad = g.O.Observer.bad o in
    let stands = g.O.Observer.stands o in
    let file : File = plain_file c.args.ground.now.file.now in
    let program : Program = plain_program c.args.ground.now.program.now in
    let threads = c.args.ground.now.threads in
    let root : Noticed g.O.Observer.State = root_of stands (table_of c.args.transitions) c.args.root in
    let t : Table = table_of c.in_ok-found.found.tables.transitions in
    let values = c.in_ok-found.found.tables.pool.values.items in
    let nodes : List Kept = c.in_ok-found.found.closing.graph.found.nodes.items in
    let edges = c.in_ok-found.found.closing.graph.edges.items in
    let looked = c.in_ok-found.found.closing.looked.items in
    let by = c.in_ok-found.found.closing.graph.by.items in
    let graph = c.in_ok-found.ensures.graph in
    let many = length-map nodes (λ (n : Kept). noticed_at first t (map stands values) n.place) in
    let whole : IsWhole (length (states_at first t (map stands values) nodes)) looked =
    subst (λ n. IsWhole n looked) (sym many) (c.is_whole-complete.ensures complete) in
    closes_all stands first next file program threads _ root (states_at first t (map stands values) nodes) edges looked
    graph is_bad c.in_ok-bad.bad c.in_ok-stuck.stuck whole
    (noted stands first next is_bad c.requires.hides file program threads _ root t values nodes edges looked graph
    (λ at n here. let placed = c.in_ok-found.ensures.placed at n here in
    omega (arith, placed.node.noted_there, length-map values stands)))
    (none_map _ _ c.in_ok-bad.bad
    (λ is. good stands first next is_bad c.requires.hides file program threads _ root t values nodes edges looked graph
    (λ at n here. of_none _ c.first_bad-bad_at.result is c.first_bad-bad_at.ensures.none at n
    (ap (λ l. slice_get l at) c.deref.ensures.value ∙ here))) c.in_ok-bad.ensures.none)
    (none_map _ _ c.in_ok-stuck.stuck
    (λ is. free stands first next is_bad c.requires.hides file program threads _ root t values nodes edges looked graph
    (file_of_placed first nodes t file (map stands values) threads root c.in_ok-found.ensures.placed graph.begins)
    (of_none _ c.in_ok-stuck_at.stuck_at is c.in_ok-stuck_at.ensures.none)) c.in_ok-stuck.ensures.none)

pub returns-clause-all : goal.returns-clause-all
returns-clause-all g c = λ complete.
    let o = c.args.ground.now.observer.now in
    let first = g.O.Observer.first o in
    let next = g.O.Observer.next o in
    let is_bad = g.O.Observer.bad o in
    let stands = g.O.Observer.stands o in
    let file : File = plain_file c.args.ground.now.file.now in
    let program : Program = plain_program c.args.ground.now.program.now in
    let threads = c.args.ground.now.threads in
    let root : Noticed g.O.Observer.State = root_of stands (table_of c.args.transitions) c.args.root in
    let t : Table = table_of c.in_ok-found.found.tables.transitions in
    let values = c.in_ok-found.found.tables.pool.values.items in
    let nodes : List Kept = c.in_ok-found.found.closing.graph.found.nodes.items in
    let edges = c.in_ok-found.found.closing.graph.edges.items in
    let looked = c.in_ok-found.found.closing.looked.items in
    let by = c.in_ok-found.found.closing.graph.by.items in
    let graph = c.in_ok-found.ensures.graph in
    let many = length-map nodes (λ (n : Kept). noticed_at first t (map stands values) n.place) in
    let count : length nodes ≡ c.len-states.result = omega (arith, c.len-states.ensures) in
    subst (HasClosed file threads root.configuration) (many ∙ count)
    (has_closed stands first next file program threads _ root (states_at first t (map stands values) nodes) edges looked
    graph (subst (λ n. IsWhole n looked) (sym many) (c.is_whole-complete.ensures complete)))

pub returns-clause-bad : goal.returns-clause-bad
returns-clause-bad g c =
    let o = c.args.ground.now.observer.now in
    let first = g.O.Observer.first o in
    let next = g.O.Observer.next o in
    let is_bad = g.O.Observer.bad o in
    let stands = g.O.Observer.stands o in
    let file : File = plain_file c.args.ground.now.file.now in
    let program : Program = plain_program c.args.ground.now.program.now in
    let threads = c.args.ground.now.threads in
    let root : Noticed g.O.Observer.State = root_of stands (table_of c.args.transitions) c.args.root in
    let t : Table = table_of c.in_ok-found.found.tables.transitions in
    let values = c.in_ok-found.found.tables.pool.values.items in
    let nodes : List Kept = c.in_ok-found.found.closing.graph.found.nodes.items in
    let edges = c.in_ok-found.found.closing.graph.edges.items in
    let looked = c.in_ok-found.found.closing.looked.items in
    let by = c.in_ok-found.found.closing.graph.by.items in
    let graph = c.in_ok-found.ensures.graph in
    some_map _ _ c.in_ok-bad.bad
    (λ path h. bad_there stands first next is_bad c.requires.hides file program threads _ root t values nodes edges
    looked graph h.0 path.items
    (subst (λ (l : List Kept). h.0 < length l) c.deref.ensures.value
    (of_some _ c.first_bad-bad_at.result h.0 h.1 c.first_bad-bad_at.ensures.within)) h.2
    (λ n here. of_some _ c.first_bad-bad_at.result h.0 h.1 c.first_bad-bad_at.ensures.some n
    (ap (λ l. slice_get l h.0) c.deref.ensures.value ∙ here))) c.in_ok-bad.ensures.some

pub returns-clause-stuck : goal.returns-clause-stuck
returns-clause-stuck g c =
    let o = c.args.ground.now.observer.now in
    let first = g.O.Observer.first o in
    let next = g.O.Observer.next o in
    let is_bad = g.O.Observer.bad o in
    let stands = g.O.Observer.stands o in
    let file : File = plain_file c.args.ground.now.file.now in
    let program : Program = plain_program c.args.ground.now.program.now in
    let threads = c.args.ground.now.threads in
    let root : Noticed g.O.Observer.State = root_of stands (table_of c.args.transitions) c.args.root in
    let t : Table = table_of c.in_ok-found.found.tables.transitions in
    let values = c.in_ok-found.found.tables.pool.values.items in
    let nodes : List Kept = c.in_ok-found.found.closing.graph.found.nodes.items in
    let edges = c.in_ok-found.found.closing.graph.edges.items in
    let looked = c.in_ok-found.found.closing.looked.items in
    let by = c.in_ok-found.found.closing.graph.by.items in
    let graph = c.in_ok-found.ensures.graph in
    some_map _ _ c.in_ok-stuck.stuck
    (λ path h. stuck_there stands first next is_bad c.requires.hides file program threads _ root t values nodes edges
    looked graph
    (file_of_placed first nodes t file (map stands values) threads root c.in_ok-found.ensures.placed graph.begins) h.0
    path.items
    (of_some _ c.in_ok-stuck_at.stuck_at h.0 h.1 c.in_ok-stuck_at.ensures.within) h.2
    (of_some _ c.in_ok-stuck_at.stuck_at h.0 h.1 c.in_ok-stuck_at.ensures.some)) c.in_ok-stuck.ensures.some

pub returns-clause-cut : goal.returns-clause-cut
returns-clause-cut g c = λ isnt.
    let o = c.args.ground.now.observer.now in
    let first = g.O.Observer.first o in
    let next = g.O.Observer.next o in
    let is_bad = g.O.Observer.bad o in
    let stands = g.O.Observer.stands o in
    let file : File = plain_file c.args.ground.now.file.now in
    let program : Program = plain_program c.args.ground.now.program.now in
    let threads = c.args.ground.now.threads in
    let root : Noticed g.O.Observer.State = root_of stands (table_of c.args.transitions) c.args.root in
    let t : Table = table_of c.in_ok-found.found.tables.transitions in
    let values = c.in_ok-found.found.tables.pool.values.items in
    let nodes : List Kept = c.in_ok-found.found.closing.graph.found.nodes.items in
    let edges = c.in_ok-found.found.closing.graph.edges.items in
    let looked = c.in_ok-found.found.closing.looked.items in
    let by = c.in_ok-found.found.closing.graph.by.items in
    let graph = c.in_ok-found.ensures.graph in
    let many = length-map nodes (λ (n : Kept). noticed_at first t (map stands values) n.place) in
    let count : length nodes ≡ c.len-states.result = omega (arith, c.len-states.ensures) in
    let few = c.in_ok-found.ensures.few c.requires.room in
    let found : AreFound edges (length (states_at first t (map stands values) nodes)) by =
    subst (λ n. AreFound edges n by) (sym many) c.in_ok-found.ensures.found.found in
    let Is : ℕ → Type 0 = λ n. HaveObjects (ActsAlong first next file program root)
    (LeadsAlong first next file program root) n most_objects in
    let by_case : (c.args.ground.now.limit ≤ length nodes) ⊎ (most_objects < total (λ (n : Kept). n.weight) nodes) →
    (c.len-states.result ≡ c.args.ground.now.limit) ⊎ Is c.len-states.result = elim [
      | inl full ↦ inl (omega (arith, full, few, count))
      | inr more ↦ inr (subst Is (many ∙ count) (have_objects stands first next is_bad c.requires.hides file program
          threads _ root t values nodes edges looked graph by most_objects found c.in_ok-found.ensures.found.once
          (λ at n here. (c.in_ok-found.ensures.placed at n here).weight) more))
    ] in
    by_case (c.in_ok-found.ensures.full (c.if-not-is_closed_or_full.ensures refl isnt))

pub returns-clause-tried : goal.returns-clause-tried
returns-clause-tried g c =
    let o = c.args.ground.now.observer.now in
    let first = g.O.Observer.first o in
    let next = g.O.Observer.next o in
    let is_bad = g.O.Observer.bad o in
    let stands = g.O.Observer.stands o in
    let file : File = plain_file c.args.ground.now.file.now in
    let program : Program = plain_program c.args.ground.now.program.now in
    let threads = c.args.ground.now.threads in
    let root : Noticed g.O.Observer.State = root_of stands (table_of c.args.transitions) c.args.root in
    let t : Table = table_of c.in_ok-found.found.tables.transitions in
    let values = c.in_ok-found.found.tables.pool.values.items in
    let nodes : List Kept = c.in_ok-found.found.closing.graph.found.nodes.items in
    let edges = c.in_ok-found.found.closing.graph.edges.items in
    let looked = c.in_ok-found.found.closing.looked.items in
    let by = c.in_ok-found.found.closing.graph.by.items in
    let graph = c.in_ok-found.ensures.graph in
    let many = length-map nodes (λ (n : Kept). noticed_at first t (map stands values) n.place) in
    let count : length nodes ≡ c.len-states.result = omega (arith, c.len-states.ensures) in
    subst (HasTried (ActsAlong first next file program root)) (many ∙ count)
    (has_tried first next file program c.requires.hides root (states_at first t (map stands values) nodes) edges by
    graph.led graph.begins (subst (λ n. AreFound edges n by) (sym many) c.in_ok-found.ensures.found.found)
    c.in_ok-found.ensures.found.once)
