-- Why `close` in src/listing.rt keeps its loop `at`.

use Rattle.std.proofs.Common.{List, arith}
use Rattle.ls_search_laws.specs.Noticing.{Noticed}
use Rattle.ls_search.specs.SeenSearch.{pairs_of}
use Rattle.ls_search.proofs.Pairs.{keeps_both}
use Rattle.ls_search.proofs.listing.close.Goals as goal

pub loop-at-preserved : goal.loop-at-preserved
loop-at-preserved g c =
    let first = g.O.Observer.first c.args.ground.now.observer.now in
    let stands = g.O.Observer.stands c.args.ground.now.observer.now in
    let old : List (Noticed g.O.Observer.State) = pairs_of first stands c.args.search.now in
    let mid : List (Noticed g.O.Observer.State) = pairs_of first stands c.loop-at.search in
    let new : List (Noticed g.O.Observer.State) = pairs_of first stands c.expand.new.search in
    let inv = c.loop-at.invariant in
    let count = c.in_ok-expand.ensures.count c.if-not-branch.false in
    record {
      sound = c.in_ok-expand.ensures.sound;
      keeps = keeps_both old mid new inv.keeps c.in_ok-expand.ensures.keeps;
      expanded = c.in_ok-expand.ensures.expanded;
      steps = c.in_ok-expand.ensures.steps;
      distinct = c.in_ok-expand.ensures.distinct c.if-not-branch.false;
      watched = λ then since. c.tell_progress.ensures then (inv.watched then since);
      count = count;
      within = omega (arith, count, c.in_ok-expand.ensures.within);
      few = c.in_ok-expand.ensures.few inv.few;
    }
