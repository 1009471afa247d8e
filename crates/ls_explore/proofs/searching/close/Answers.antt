-- Why `close` in src/searching.rt keeps its contract, its loop and what it calls with.

use Rattle.std.proofs.Common.{◌+◌, ◌≤◌, length, refl, sym, ap, subst, arith}
use Rattle.std.proofs.lemmas.Bool.{leb-true}
use Rattle.ls_explore.specs.Searches.{AreSaved, IsClosedTo, IsSound, paths_of}
use Rattle.ls_explore.specs.Walks.{root_of}
use Rattle.ls_explore.proofs.Closing.{closed_all, closed_none}
use Rattle.ls_explore.proofs.Loops.{kept_more, root_same}
use Rattle.ls_explore.proofs.Paths.{length-paths}
use Rattle.ls_explore.proofs.searching.close.Goals as goal

pub loop-at-init : goal.loop-at-init
loop-at-init g c = (
  record { walker_code = refl; walker_cells = refl; other_code = refl; other_cells = refl },
  ap length c.requires.none,
  c.requires.sound,
  closed_none c.args.ground.now.most c.args.ground.now.threads (root_of c.args.walker.now c.args.ground.now.setup.now)
      (paths_of c.args.nodes.now.paths.items),
  c.requires.saves,
  c.requires.distinct,
  (λ then h. h),
  λ few. few,
)

pub expand-requires-clause-sound : goal.expand-requires-clause-sound
expand-requires-clause-sound g c =
    let kept = c.loop-at.invariant.0 in
    let same = root_same c.args.walker.now c.loop-at.walker c.args.ground.now.setup.now kept.walker_code
    kept.walker_cells in
    subst (λ r. IsSound c.args.ground.now.most c.args.ground.now.threads r (paths_of c.loop-at.nodes.paths.items)
    c.loop-at.nodes.seen.items) (sym same) c.loop-at.invariant.2

pub expand-requires-clause-closed : goal.expand-requires-clause-closed
expand-requires-clause-closed g c =
    let kept = c.loop-at.invariant.0 in
    let same = root_same c.args.walker.now c.loop-at.walker c.args.ground.now.setup.now kept.walker_code
    kept.walker_cells in
    subst (λ r. IsClosedTo c.args.ground.now.most c.args.ground.now.threads r (paths_of c.loop-at.nodes.paths.items)
    c.loop-at.at 0) (sym same) c.loop-at.invariant.3

pub loop-at-preserved : goal.loop-at-preserved
loop-at-preserved g c =
    let kept = c.loop-at.invariant.0 in
    let same = root_same c.args.walker.now c.loop-at.walker c.args.ground.now.setup.now kept.walker_code
    kept.walker_cells in (
      kept_more c.args.walker.now c.args.other.now c.loop-at.walker c.loop-at.other c.expand.new.walker
          c.expand.new.other kept c.expand.ensures.walker_code c.expand.ensures.walker_cells c.expand.ensures.other_code
          c.expand.ensures.other_cells,
      c.in_ok-expand.ensures.count c.if-not-branch.false,
      subst (λ r. IsSound c.args.ground.now.most c.args.ground.now.threads r (paths_of c.expand.new.nodes.paths.items)
          c.expand.new.nodes.seen.items) same c.in_ok-expand.ensures.sound,
      subst (λ r. IsClosedTo c.args.ground.now.most c.args.ground.now.threads r
          (paths_of c.expand.new.nodes.paths.items) (c.loop-at.at + 1) 0) same
          (c.in_ok-expand.ensures.closed c.if-not-branch.false),
      subst (λ r. AreSaved c.args.ground.now.most r (paths_of c.expand.new.nodes.paths.items)
          c.expand.new.nodes.saved.items) same c.in_ok-expand.ensures.saves,
      c.in_ok-expand.ensures.distinct,
      (λ then h. c.tell_progress.ensures then (c.loop-at.invariant.6 then h)),
      λ few. c.in_ok-expand.ensures.few (c.loop-at.invariant.7 few),
    )

pub returns-then-not-branch-clause-sound : goal.returns-then-not-branch-clause-sound
returns-then-not-branch-clause-sound g c =
    let kept = c.loop-at.invariant.0 in
    let same = root_same c.args.walker.now c.loop-at.walker c.args.ground.now.setup.now kept.walker_code
    kept.walker_cells in
    subst (λ r. IsSound c.args.ground.now.most c.args.ground.now.threads r (paths_of c.expand.new.nodes.paths.items)
    c.expand.new.nodes.seen.items) same c.in_ok-expand.ensures.sound

pub returns-then-at-len-clause-count : goal.returns-then-at-len-clause-count
returns-then-at-len-clause-count g c = λ yes.
    omega (
      arith,
      c.loop-at.invariant.1,
      c.loop-at.invariant.2.few,
      length-paths c.loop-at.nodes.paths.items,
    )

pub returns-then-at-len-clause-closed : goal.returns-then-at-len-clause-closed
returns-then-at-len-clause-closed g c = λ yes.
    let past : length (paths_of c.loop-at.nodes.paths.items) ≤ c.loop-at.at = omega
    (arith, length-paths c.loop-at.nodes.paths.items) in
    closed_all c.args.ground.now.most c.args.ground.now.threads (root_of c.args.walker.now c.args.ground.now.setup.now)
    (paths_of c.loop-at.nodes.paths.items) c.loop-at.at past c.loop-at.invariant.3

pub returns-clause-count : goal.returns-clause-count
returns-clause-count g c = λ yes.
    let few : c.len-2.result ≤ c.args.ground.now.limit = leb-true c.len-2.result c.args.ground.now.limit yes in
    omega (
      arith,
      few,
      c.loop-at.invariant.1,
      c.loop-at.invariant.2.few,
      length-paths c.loop-at.nodes.paths.items,
    )

pub returns-clause-closed : goal.returns-clause-closed
returns-clause-closed g c = λ yes.
    let few : c.len-2.result ≤ c.args.ground.now.limit = leb-true c.len-2.result c.args.ground.now.limit yes in
    let past : length (paths_of c.loop-at.nodes.paths.items) ≤ c.loop-at.at = omega
    (arith, few, length-paths c.loop-at.nodes.paths.items) in
    closed_all c.args.ground.now.most c.args.ground.now.threads (root_of c.args.walker.now c.args.ground.now.setup.now)
    (paths_of c.loop-at.nodes.paths.items) c.loop-at.at past c.loop-at.invariant.3

pub expand-requires-clause-saves : goal.expand-requires-clause-saves
expand-requires-clause-saves g c =
    let kept = c.loop-at.invariant.0 in
    let same = root_same c.args.walker.now c.loop-at.walker c.args.ground.now.setup.now kept.walker_code
    kept.walker_cells in
    subst (λ r. AreSaved c.args.ground.now.most r (paths_of c.loop-at.nodes.paths.items) c.loop-at.nodes.saved.items)
    (sym same) c.loop-at.invariant.4

pub returns-then-not-branch-clause-saves : goal.returns-then-not-branch-clause-saves
returns-then-not-branch-clause-saves g c =
    let kept = c.loop-at.invariant.0 in
    let same = root_same c.args.walker.now c.loop-at.walker c.args.ground.now.setup.now kept.walker_code
    kept.walker_cells in
    subst (λ r. AreSaved c.args.ground.now.most r (paths_of c.expand.new.nodes.paths.items)
    c.expand.new.nodes.saved.items) same c.in_ok-expand.ensures.saves

pub returns-then-at-len-clause-once : goal.returns-then-at-len-clause-once
returns-then-at-len-clause-once g c = c.loop-at.invariant.5.once

pub returns-then-not-branch-clause-once : goal.returns-then-not-branch-clause-once
returns-then-not-branch-clause-once g c = c.in_ok-expand.ensures.distinct.once

pub returns-clause-once : goal.returns-clause-once
returns-clause-once g c = c.loop-at.invariant.5.once

pub expand-requires-clause-distinct : goal.expand-requires-clause-distinct
expand-requires-clause-distinct g c = c.loop-at.invariant.5
