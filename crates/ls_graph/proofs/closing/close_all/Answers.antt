-- Why `close_all` in src/closing.rt keeps its contract and its loop.
use Rattle.ls_graph.proofs.Growing.{goes_both, goes_none, none_then}
use Rattle.ls_graph.proofs.closing.close_all.Goals as goal

pub loop-init : goal.loop-init
loop-init g c = record {
  goes = goes_none _ _ _ _ c.args.tables.now c.args.closing.now.graph c.requires.known c.requires.led
      c.requires.weighed;
  looked = c.requires.looked;
  bounded = λ old. old;
  grown = c.requires.grown;
  from = c.requires.from;
}

pub look_at-requires-clause-known : goal.look_at-requires-clause-known
look_at-requires-clause-known g c = c.loop.invariant.goes.known

pub look_at-requires-clause-led : goal.look_at-requires-clause-led
look_at-requires-clause-led g c = c.loop.invariant.goes.led

pub loop-preserved : goal.loop-preserved
loop-preserved g c = record {
  goes = goes_both _ _ _ _ _ _ c.loop.tables c.loop.closing.graph _ _ c.loop.invariant.goes c.in_ok-halt.ensures.goes;
  looked = c.in_ok-halt.ensures.looked;
  bounded = λ old. c.in_ok-halt.ensures.bounded (c.loop.invariant.bounded old);
  grown = c.in_ok-halt.ensures.grown;
  from = none_then c.in_ok-halt.field-0 c.in_default-2.not-Some c.in_ok-halt.ensures.from;
}
