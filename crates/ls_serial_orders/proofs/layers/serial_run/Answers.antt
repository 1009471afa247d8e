-- Why `serial_run` in src/layers.rt keeps its contract and its loop `count`.

use Rattle.std.proofs.Common.{List, Option, subst}
use Rattle.std.specs.Prelude.{IfNone, IfSome}
use Rattle.std.specs.declared.alloc.Global.{Global}
use Rattle.std.specs.declared.vec.Vec.{Vec}
use Rattle.ls_events.specs.declared.event.Event.{Event}
use Rattle.ls_serial_orders.specs.declared.placing.Placed.{Placed}
use Rattle.ls_serial_orders.specs.Placing.{HasRun, NoneFinished}
use Rattle.ls_serial_orders.proofs.Ahead.{few_layers, first_ahead, next_ahead}
use Rattle.ls_serial_orders.proofs.Placed.{first_placed, next_of, next_placed, run_explains}
use Rattle.ls_serial_orders.proofs.layers.serial_run.Goals as goal

pub loop-count-init : goal.loop-count-init
loop-count-init c = record {
  placed = first_placed c.args.rows.now c.args.history.now c.in_ok-layer.layer.items c.in_ok-layer.ensures;
  ahead = λ once e. first_ahead c.args.rows.now c.args.history.now once e c.in_ok-layer.layer.items
      c.in_ok-layer.ensures;
}

pub loop-count-preserved : goal.loop-count-preserved
loop-count-preserved c =
    let rows = c.args.rows.now in
    let h = c.args.history.now in
    let layer = c.loop-count.layer.items in
    let none : NoneFinished h layer = subst (λ (l : List Placed). NoneFinished h l) c.as_slice-placed.ensures.value
    (subst (λ (o : Option (Vec Event Global)). IfNone o (NoneFinished h c.as_slice-placed.result.now)) c.in-None.is
    c.in_ok-found.ensures.none) in
    let is = next_of rows h _ _ _ c.as_slice-placed.ensures.value c.in_ok-layer-2.ensures in
    record {
      placed = next_placed rows h layer _ c.loop-count.invariant.placed is;
      ahead = λ once e. next_ahead rows h once e layer c.loop-count.count (c.loop-count.invariant.ahead once e) _ none
          is;
    }

pub returns-in-Some-clause-some : goal.returns-in-Some-clause-some
returns-in-Some-clause-some c =
    let rows = c.args.rows.now in
    let h = c.args.history.now in
    run_explains rows h c.loop-count.layer.items c.in-Some.run'.items c.loop-count.invariant.placed
    (subst (λ (l : List Placed). HasRun h l c.in-Some.run'.items) c.as_slice-placed.ensures.value
    (subst (λ (o : Option (Vec Event Global)). IfSome o (λ run. HasRun h c.as_slice-placed.result.now run.items))
    c.in-Some.is c.in_ok-found.ensures.some))

pub returns-in-Some-last-clause-some : goal.returns-in-Some-last-clause-some
returns-in-Some-last-clause-some c =
    let rows = c.args.rows.now in
    let h = c.args.history.now in
    run_explains rows h c.loop-count.layer.items c.in-Some-last.run'.items c.loop-count.invariant.placed
    (subst (λ (l : List Placed). HasRun h l c.in-Some-last.run'.items) c.as_slice-rest.ensures.value
    (subst (λ (o : Option (Vec Event Global)). IfSome o (λ run. HasRun h c.as_slice-rest.result.now run.items))
    c.in-Some-last.is c.in_ok-last.ensures.some))

pub returns-clause-none : goal.returns-clause-none
returns-clause-none c = λ once e.
    let h = c.args.history.now in
    few_layers c.args.rows.now h once e c.loop-count.layer.items c.loop-count.count
    (c.loop-count.invariant.ahead once e)
    (subst (λ (l : List Placed). NoneFinished h l) c.as_slice-rest.ensures.value
    (subst (λ (o : Option (Vec Event Global)). IfNone o (NoneFinished h c.as_slice-rest.result.now)) c.in-None-last.is
    c.in_ok-last.ensures.none))
    c.loop-count-test.false
