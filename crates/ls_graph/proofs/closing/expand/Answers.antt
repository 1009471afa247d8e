-- Why `expand` in src/closing.rt keeps its contract and its loop.
use Rattle.std.proofs.Common.{inl, arith}
use Rattle.ls_graph.specs.Graph.{states_in}
use Rattle.ls_graph.proofs.Founding.{before_all, before_more, none_by}
use Rattle.ls_graph.proofs.Growing.{goes_both, told_more, within_nodes, within_states, within_still}
use Rattle.ls_graph.proofs.closing.expand.Goals as goal

pub loop-actor-init : goal.loop-actor-init
loop-actor-init g c = record {
  goes = record {
    known = c.requires.known;
    led = c.requires.led;
    states = λ n x e. e;
    edges = λ n x e. e;
    weighed = c.requires.weighed;
  };
  within = c.requires.at;
  told = λ s u here less. absurd (omega (arith, less));
  bounded = λ old. old;
  grown = c.requires.grown;
  before = λ i e here. inl here;
}

pub look-requires-clause-known : goal.look-requires-clause-known
look-requires-clause-known g c = c.loop-actor.invariant.goes.known

pub look-requires-clause-led : goal.look-requires-clause-led
look-requires-clause-led g c = c.loop-actor.invariant.goes.led

pub look-requires-clause-at : goal.look-requires-clause-at
look-requires-clause-at g c = c.loop-actor.invariant.within

pub look-requires-clause-grown : goal.look-requires-clause-grown
look-requires-clause-grown g c = c.loop-actor.invariant.grown

pub look-requires-clause-new : goal.look-requires-clause-new
look-requires-clause-new g c =
    none_by c.args.graph.now.edges.items c.loop-actor.graph.edges.items c.args.at c.loop-actor.actor c.requires.none
    c.loop-actor.invariant.before

pub loop-actor-preserved : goal.loop-actor-preserved
loop-actor-preserved g c =
    let stands = g.P.Space.stands c.args.space.now in
    let inv = c.loop-actor.invariant in
    let goes = c.in_ok-look.ensures.goes in
    record {
      goes = goes_both _ _ _ _ _ _ c.loop-actor.tables c.loop-actor.graph _ _ inv.goes goes;
      within = within_nodes stands c.look.new.tables c.look.new.graph c.args.at
          (within_still (states_in stands c.loop-actor.tables c.loop-actor.graph)
          (states_in stands c.look.new.tables c.look.new.graph) c.args.at goes.states
          (within_states stands c.loop-actor.tables c.loop-actor.graph c.args.at inv.within));
      told = λ s u here less.
          told_more (g.P.Space.Rests c.args.space.now) (g.P.Space.Ends c.args.space.now)
          c.loop-actor.graph.edges.items c.look.new.graph.edges.items c.args.at s c.loop-actor.actor goes.edges
          (λ w k. inv.told s w here k)
          (c.in_ok-look.ensures.told c.if-not-branch.false s (inv.goes.states c.args.at s here)) u less;
      bounded = λ old. c.in_ok-look.ensures.bounded (inv.bounded old);
      grown = c.in_ok-look.ensures.grown;
      before = before_more c.args.graph.now.edges.items c.loop-actor.graph.edges.items c.look.new.graph.edges.items
          c.args.at c.loop-actor.actor inv.before c.in_ok-look.ensures.more;
    }
