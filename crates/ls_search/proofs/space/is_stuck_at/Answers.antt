-- Why `is_stuck_at` in src/space.rt keeps its contract and its loop.
use Rattle.std.proofs.Common.{sym, ◌∙◌, arith}
use Rattle.ls_search_laws.specs.Configuration.{stride}
use Rattle.ls_transitions.specs.Seen.{table_of}
use Rattle.ls_transitions.specs.Tables.{Table}
use Rattle.ls_transitions.proofs.Growing.{grows_on}
use Rattle.ls_search.specs.Places.{configuration_of}
use Rattle.ls_search.proofs.FollowingOn.{acting_seen, all_still, free_more, none_waits, seen_before, still_more}
use Rattle.ls_search.proofs.FollowingOn.{waits_more}
use Rattle.ls_search.proofs.Nearness.{not_both}
use Rattle.ls_search.proofs.Strides.{there_still}
use Rattle.ls_search.proofs.space.is_stuck_at.Goals as goal

pub seen_from-requires : goal.seen_from-requires
seen_from-requires c = record {
  there = there_still (table_of c.args.transitions.now) (table_of c.loop-thread.transitions) c.args.place.now.store
      c.args.place.now.works.items c.loop-thread.invariant.grows c.requires.there;
}

pub loop-thread-preserved : goal.loop-thread-preserved
loop-thread-preserved c =
    let t : Table = table_of c.args.transitions.now in
    let inv = c.loop-thread.invariant in
    record {
      grows = grows_on t (table_of c.loop-thread.transitions) (table_of c.seen_from.new.transitions) inv.grows
          c.seen_from.ensures.grows;
      free = λ off.
          free_more t.file t c.args.place.now c.args.threads c.requires.width c.loop-thread.thread c.in_ok-looked.looked
          c.loop-thread.waits inv.free
          (seen_before t (table_of c.loop-thread.transitions) c.args.place.now inv.grows c.requires.there
          c.loop-thread.thread c.in_ok-looked.looked c.in_ok-looked.ensures.seen)
          (sym c.is_acting.ensures ∙ c.if-is_acting.false) (sym c.waits_with-waits.ensures ∙ off);
      still = still_more t.file t c.args.place.now c.args.threads c.requires.width c.loop-thread.thread
          c.in_ok-looked.looked inv.still
          (seen_before t (table_of c.loop-thread.transitions) c.args.place.now inv.grows c.requires.there
          c.loop-thread.thread c.in_ok-looked.looked c.in_ok-looked.ensures.seen)
          (sym c.is_acting.ensures ∙ c.if-is_acting.false);
      waiting = λ on.
          waits_more t.file t c.args.place.now c.args.threads c.requires.width c.loop-thread.thread
          c.in_ok-looked.looked c.loop-thread.waits inv.waiting
          (seen_before t (table_of c.loop-thread.transitions) c.args.place.now inv.grows c.requires.there
          c.loop-thread.thread c.in_ok-looked.looked c.in_ok-looked.ensures.seen)
          (sym c.waits_with-waits.ensures ∙ on);
    }

pub returns-then-is_acting-clause-none : goal.returns-then-is_acting-clause-none
returns-then-is_acting-clause-none c = λ off stuck.
    let t : Table = table_of c.args.transitions.now in
    let inv = c.loop-thread.invariant in
    not_both (stride t.file (configuration_of t c.args.place.now) c.loop-thread.thread).did
    (acting_seen c.in_ok-looked.looked (stride t.file (configuration_of t c.args.place.now) c.loop-thread.thread).did
    (seen_before t (table_of c.loop-thread.transitions) c.args.place.now inv.grows c.requires.there
    c.loop-thread.thread c.in_ok-looked.looked c.in_ok-looked.ensures.seen)
    (sym c.is_acting.ensures ∙ c.if-is_acting.true)) (stuck.still c.loop-thread.thread)

pub returns-clause-some : goal.returns-clause-some
returns-clause-some c = λ on.
    let t : Table = table_of c.args.transitions.now in
    let inv = c.loop-thread.invariant in
    all_still t.file t c.args.place.now c.args.threads c.requires.width
    (λ u less. inv.still u (omega (arith, less, c.loop-thread-test.false))) (inv.waiting on)

pub returns-clause-none : goal.returns-clause-none
returns-clause-none c = λ off.
    let t : Table = table_of c.args.transitions.now in
    none_waits t.file t c.args.place.now c.args.threads c.requires.width
    (λ u less. c.loop-thread.invariant.free off u (omega (arith, less, c.loop-thread-test.false)))
