-- Why `close` in src/closing.rt keeps its contract.
use Rattle.ls_graph.proofs.Founding.{grown_alone}
use Rattle.ls_graph.proofs.Growing.{first_stands}
use Rattle.ls_graph.proofs.Weighing.{bounded_alone}
use Rattle.ls_graph.proofs.closing.close.Goals as goal

pub returns-clause-graph : goal.returns-clause-graph
returns-clause-graph g c =
    let stands = g.P.Space.stands c.args.space.now in
    let goes = c.in_ok-halt.ensures.goes in
    let nodes = c.in_ok-found.found.nodes.items in
    record {
      begins = goes.states 0 (stands c.args.tables.now c.args.root)
          (first_stands stands c.args.tables.now nodes c.args.root c.in_ok-found.ensures.alone);
      led = goes.led;
      told = c.in_ok-halt.ensures.looked;
    }

pub close_all-requires-clause-grown : goal.close_all-requires-clause-grown
close_all-requires-clause-grown g c =
    grown_alone (record { found = c.in_ok-found.found; edges = c.new.result; by = c.new-2.result }) c.args.root
    c.in_ok-found.ensures.alone c.new.ensures.items c.new-2.ensures.items

pub returns-clause-bounded : goal.returns-clause-bounded
returns-clause-bounded g c = λ room.
    c.in_ok-halt.ensures.bounded (bounded_alone g.P.Space.weighs c.args.plan.bounds c.in_ok-found.found c.args.root
    c.in_ok-found.ensures.alone c.in_ok-found.ensures.weight room)
