-- Why `expand` in src/searching.rt keeps its contract, its loop and what it calls with.

use Rattle.std.proofs.Common.{◌∙◌, ◌+◌, ℕ, List, length, refl, sym, ap, subst, arith}
use Rattle.ls_code.specs.Machine.{Machine}
use Rattle.ls_explore.specs.Searches.{AreSaved, paths_of}
use Rattle.ls_explore.specs.Walks.{root_of}
use Rattle.ls_explore.proofs.Distinct.{distinct_path}
use Rattle.ls_explore.proofs.Loops.{end_closed, end_count, end_sound, kept_more, on_looked, root_same, sound_looked}
use Rattle.ls_explore.proofs.Paths.{length-paths}
use Rattle.ls_explore.proofs.Seeing.{seen_of_none}
use Rattle.ls_explore.proofs.searching.expand.Goals as goal

pub loop-thread-init : goal.loop-thread-init
loop-thread-init c = (
  record { walker_code = refl; walker_cells = refl; other_code = refl; other_cells = refl },
  refl,
  record {
    there = omega (
      arith,
      c.requires.at,
      length-paths c.args.nodes.now.paths.items,
    );
    sound = c.requires.sound;
    closed = c.requires.closed;
    seen = seen_of_none c.args.ground.now.most _ _ refl refl;
  },
  c.requires.saves,
  c.requires.distinct,
  λ few. few,
)

pub loop-thread-preserved : goal.loop-thread-preserved
loop-thread-preserved c =
    let setup : List ℕ = c.args.ground.now.setup.now in
    let root : Machine = root_of c.args.walker.now setup in
    let kept = c.loop-thread.invariant.0 in (
      kept_more c.args.walker.now c.args.other.now c.loop-thread.walker c.loop-thread.other c.look.new.walker
          c.look.new.other kept c.look.ensures.walker_code c.look.ensures.walker_cells c.look.ensures.other_code
          c.look.ensures.other_cells,
      c.look.ensures.seen ∙ c.loop-thread.invariant.1,
      on_looked c.args.ground.now.most c.args.ground.now.threads root (root_of c.loop-thread.walker setup)
          (root_same c.args.walker.now c.loop-thread.walker setup kept.walker_code kept.walker_cells)
          (paths_of c.loop-thread.nodes.paths.items) (paths_of c.look.new.nodes.paths.items)
          c.loop-thread.nodes.seen.items c.look.new.nodes.seen.items c.look.ensures.seen c.in_ok-did.ensures.grows
          c.in_ok-did.ensures.acts
          c.args.at c.loop-thread.thread c.loop-thread.seen c.seen_with-seen.result c.in_ok-did.field-0 c.in-Some.did
          c.loop-thread.invariant.2 c.seen_with-seen.ensures c.in-Some.is c.in_ok-did.ensures.leads
          c.in_ok-did.ensures.did,
      subst (λ r. AreSaved c.args.ground.now.most r (paths_of c.look.new.nodes.paths.items)
          c.look.new.nodes.saved.items) (root_same c.args.walker.now c.loop-thread.walker setup kept.walker_code
          kept.walker_cells) c.in_ok-did.ensures.saves,
      c.in_ok-did.ensures.distinct c.loop-thread.invariant.4,
      λ few. c.in_ok-did.ensures.few (c.loop-thread.invariant.5 few),
    )

pub returns-in_default-clause-sound : goal.returns-in_default-clause-sound
returns-in_default-clause-sound c =
    let setup : List ℕ = c.args.ground.now.setup.now in
    let root : Machine = root_of c.args.walker.now setup in
    let kept = c.loop-thread.invariant.0 in
    sound_looked c.args.ground.now.most c.args.ground.now.threads root (root_of c.loop-thread.walker setup)
    (root_same c.args.walker.now c.loop-thread.walker setup kept.walker_code kept.walker_cells)
    (paths_of c.loop-thread.nodes.paths.items) (paths_of c.look.new.nodes.paths.items) c.loop-thread.nodes.seen.items
    c.look.new.nodes.seen.items c.look.ensures.seen c.in_ok-did.ensures.grows c.in_ok-did.ensures.acts
    c.loop-thread.invariant.2.sound

pub returns-clause-sound : goal.returns-clause-sound
returns-clause-sound c =
    let root : Machine = root_of c.args.walker.now c.args.ground.now.setup.now in
    end_sound c.args.ground.now.most c.args.ground.now.threads root (paths_of c.loop-thread.nodes.paths.items)
    c.loop-thread.nodes.seen.items c.push.new.self.items c.args.at c.loop-thread.thread c.loop-thread.seen
    (omega arith) c.loop-thread.invariant.2 c.in_ok-push.ensures.items
    (ap length c.loop-thread.invariant.1 ∙ c.requires.count)

pub returns-clause-count : goal.returns-clause-count
returns-clause-count c = λ yes.
    let root : Machine = root_of c.args.walker.now c.args.ground.now.setup.now in
    end_count c.args.ground.now.most c.args.ground.now.threads root (paths_of c.loop-thread.nodes.paths.items)
    c.loop-thread.nodes.seen.items c.push.new.self.items c.args.at c.loop-thread.thread c.loop-thread.seen
    (omega arith) c.loop-thread.invariant.2 c.in_ok-push.ensures.items
    (ap length c.loop-thread.invariant.1 ∙ c.requires.count)

pub returns-clause-closed : goal.returns-clause-closed
returns-clause-closed c = λ yes.
    let root : Machine = root_of c.args.walker.now c.args.ground.now.setup.now in
    end_closed c.args.ground.now.most c.args.ground.now.threads root (paths_of c.loop-thread.nodes.paths.items)
    c.loop-thread.nodes.seen.items c.push.new.self.items c.args.at c.loop-thread.thread c.loop-thread.seen
    (omega arith) c.loop-thread.invariant.2 c.in_ok-push.ensures.items
    (ap length c.loop-thread.invariant.1 ∙ c.requires.count)

pub look-requires-clause-at : goal.look-requires-clause-at
look-requires-clause-at c = omega
    (arith, c.loop-thread.invariant.2.there, length-paths c.loop-thread.nodes.paths.items)

pub look-requires-clause-saves : goal.look-requires-clause-saves
look-requires-clause-saves c =
    let kept = c.loop-thread.invariant.0 in
    let same = root_same c.args.walker.now c.loop-thread.walker c.args.ground.now.setup.now kept.walker_code
    kept.walker_cells in
    subst (λ r. AreSaved c.args.ground.now.most r (paths_of c.loop-thread.nodes.paths.items)
    c.loop-thread.nodes.saved.items) (sym same) c.loop-thread.invariant.3

pub returns-in_default-clause-saves : goal.returns-in_default-clause-saves
returns-in_default-clause-saves c =
    let kept = c.loop-thread.invariant.0 in
    let same = root_same c.args.walker.now c.loop-thread.walker c.args.ground.now.setup.now kept.walker_code
    kept.walker_cells in
    subst (λ r. AreSaved c.args.ground.now.most r (paths_of c.look.new.nodes.paths.items) c.look.new.nodes.saved.items)
    same c.in_ok-did.ensures.saves

pub returns-clause-distinct : goal.returns-clause-distinct
returns-clause-distinct c = distinct_path (paths_of c.loop-thread.nodes.paths.items) c.args.at c.loop-thread.thread
    c.loop-thread.invariant.4

pub returns-in_default-clause-distinct : goal.returns-in_default-clause-distinct
returns-in_default-clause-distinct c = distinct_path (paths_of c.look.new.nodes.paths.items) c.args.at
    (c.loop-thread.thread + 1) (c.in_ok-did.ensures.distinct c.loop-thread.invariant.4)
