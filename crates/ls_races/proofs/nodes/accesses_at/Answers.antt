-- Why `accesses_at` in src/nodes.rt keeps its loop, and what it calls with.
use Rattle.std.proofs.Common.{◌+◌, [], ◌∙◌, map, sym, ap, subst}
use Rattle.ls_meaning.specs.Runs.{has_ended}
use Rattle.ls_search_laws.specs.Configuration.{Configuration, stride}
use Rattle.ls_transitions.specs.Seen.{table_of}
use Rattle.ls_transitions.specs.Tables.{Table}
use Rattle.ls_transitions.proofs.Growing.{grows_on}
use Rattle.ls_search.specs.Places.{configuration_of}
use Rattle.ls_search.proofs.Strides.{stays, there_still}
use Rattle.ls_races.specs.Met.{AreNext}
use Rattle.ls_races.specs.Volatile.{volatile_by}
use Rattle.ls_races.proofs.Nexts.{access_kept, next_more}
use Rattle.ls_races.proofs.nodes.accesses_at.Goals as goal

pub next_access-requires-clause-there : goal.next_access-requires-clause-there
next_access-requires-clause-there c =
    there_still (table_of c.args.transitions.now) (table_of c.loop-thread.transitions) c.args.place.now.store
    c.args.place.now.works.items c.loop-thread.invariant.grows c.requires

pub next_access-requires-clause-ended : goal.next_access-requires-clause-ended
next_access-requires-clause-ended c =
    c.in_ok-ended.ensures.ended
    ∙ ap (λ (k : Configuration). has_ended (k.continues 0 []))
    (sym (stays (table_of c.args.transitions.now) (table_of c.loop-thread.transitions) c.args.place.now.store
    c.args.place.now.works.items c.loop-thread.invariant.grows c.requires))

pub loop-thread-preserved : goal.loop-thread-preserved
loop-thread-preserved c =
    let t : Table = table_of c.args.transitions.now in
    let t' : Table = table_of c.loop-thread.transitions in
    let p = c.args.place.now in
    let volatile = volatile_by (map (λ v. v.items) c.args.classes.now) in
    let inv = c.loop-thread.invariant in
    record {
      grows = grows_on t t' (table_of c.next_access.new.transitions) inv.grows c.in_ok-access.ensures.grows;
      next = subst (AreNext volatile (configuration_of t p).store (λ u. (stride t.file (configuration_of t p) u).did)
          (c.loop-thread.thread + 1)) (sym c.in_ok-push.ensures.items)
          (next_more volatile (configuration_of t p).store (λ u. (stride t.file (configuration_of t p) u).did)
          c.loop-thread.thread c.loop-thread.accesses.items c.in_ok-access.access inv.next
          (c.in_ok-access.ensures.next ∙ access_kept volatile t t' p c.loop-thread.thread inv.grows c.requires));
    }
