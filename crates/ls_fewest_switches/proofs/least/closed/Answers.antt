-- Why `closed` in src/least.rt keeps its contract.
use Rattle.std.proofs.Common.{◌≡◌, ℕ, List, [], length, map, sym, ap, ◌∙◌, subst}
use Rattle.std.proofs.lemmas.List.{length-map}
use Rattle.ls_checked.specs.CheckedTree.{File}
use Rattle.ls_checked.specs.CheckedProgram.{Program}
use Rattle.ls_checked.specs.Plain.{plain_file}
use Rattle.ls_checked.specs.PlainProgram.{plain_program, plain_thread}
use Rattle.ls_graph.specs.Graph.{IsGraph}
use Rattle.ls_meaning.specs.Runs.{start}
use Rattle.ls_search_laws.specs.Configuration.{Configuration, configuration_of}
use Rattle.ls_search_laws.specs.Noticing.{Noticed, noticed_of}
use Rattle.ls_transitions.specs.Seen.{table_of}
use Rattle.ls_search.specs.declared.space.Kept.{Kept}
use Rattle.ls_search.specs.Searched.{noticed_at}
use Rattle.ls_search.specs.Space.{GoesTo, IsEnd, Rests}
use Rattle.ls_fewest_switches.proofs.least.closed.Goals as goal

pub returns : goal.returns
returns g c =
    let o = c.args.observer.now in
    let first = g.O.Observer.first o in
    let next = g.O.Observer.next o in
    let stands = g.O.Observer.stands o in
    let file : File = plain_file c.args.file.now in
    let program : Program = plain_program c.args.program.now in
    let closing = c.in_ok-closing.closing in
    let nodes = closing.graph.found.nodes.items in
    let state_of : Kept → Noticed g.O.Observer.State = λ n.
    noticed_at first (table_of c.close.new.tables.transitions) (map stands c.close.new.tables.pool.values.items)
    n.place in
    let states : List (Noticed g.O.Observer.State) = map state_of nodes in
    let Is : ℕ → Noticed g.O.Observer.State → Type 0 = λ n r.
    IsGraph (Rests first next file program stands c.args.lost) (GoesTo first next file program)
    (IsEnd stands (g.O.Observer.bad o) c.args.scope.wanted file) n r states closing.graph.edges.items
    closing.looked.items in
    let root : noticed_at first (table_of c.in_ok-beginning.beginning.tables.transitions)
    (map stands c.in_ok-beginning.beginning.tables.pool.values.items) c.in_ok-beginning.beginning.root.place ≡
    noticed_of first next file program [] =
    c.in_ok-beginning.ensures.stands
    ∙ ap (λ (k : Configuration). record { configuration = k; noted = stands c.in_ok-start.field-0 })
    c.in_ok-numbered.ensures.start
    ∙ ap (λ (m : g.O.Observer.State). record
    { configuration = configuration_of file program (start program); noted = m }) c.in_ok-start.ensures in
    let actors : c.args.scope.plan.actors ≡ length program.threads =
    c.requires ∙ sym (length-map c.args.program.now.threads.items plain_thread) in
    record {
      states = states;
      many = length-map nodes state_of;
      graph = subst (λ n. Is n (noticed_of first next file program [])) actors
          (subst (Is c.args.scope.plan.actors) root c.in_ok-closing.ensures.graph);
    }
