-- Why `states_from` in src/graph.rt keeps its contract and what it calls with.

use Rattle.std.proofs.Common.{length, map, subst, sym}
use Rattle.std.proofs.lemmas.List.{length-map}
use Rattle.ls_graph.specs.Found.{AreFound}
use Rattle.ls_labels.specs.Names.{names_of}
use Rattle.ls_transitions.specs.Seen.{table_of}
use Rattle.ls_choices.specs.Points.{standing_at}
use Rattle.ls_choices.proofs.Arriving.{all_reached}
use Rattle.ls_choices.proofs.graph.states_from.Goals as goal

pub returns-clause-states : goal.returns-clause-states
returns-clause-states c =
    let names = names_of c.args.names in
    let graph = c.in_ok-closing.closing.graph in
    let nodes = graph.found.nodes.items in
    let stands = standing_at (table_of c.close.new.tables) in
    let told = c.in_ok-closing.ensures in
    record {
      placed = told.known;
      begins = c.in_ok-paths.ensures.begins;
      reached = all_reached names c.args.first.now (map stands nodes) graph.edges.items graph.by.items
          (map (λ p. p.items) c.in_ok-paths.paths.items)
          (subst (λ n. AreFound graph.edges.items n graph.by.items) (sym (length-map nodes stands)) told.found.found)
          told.graph.led c.in_ok-paths.ensures _ told.graph.begins c.in_ok-transitions.ensures.stands;
    }
