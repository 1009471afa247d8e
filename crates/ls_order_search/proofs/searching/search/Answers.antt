-- Why `search` in src/searching.rt keeps its clauses `none` and `some` and what `end`, `pass` and `at` require.

use Rattle.std.proofs.Common.{◌≡◌, ◌+◌, [], ◌≤◌, ap, refl, subst, arith}
use Rattle.std.specs.List.{list_any}
use Rattle.std.specs.BTreeMap.{is_at}
use Rattle.std.specs.Ordering.{int_cmp}
use Rattle.std.proofs.lemmas.Bool.{MatchBool-at_false, MatchBool-at_true}
use Rattle.std.proofs.lemmas.Option.{MatchOption-at_none, MatchOption-at_some}
use Rattle.ls_order_search.specs.Pools.{PassedTo}
use Rattle.ls_order_search.specs.Search.{Between, Due, NotDue, Stuck, held}
use Rattle.ls_order_search.proofs.Betweens.{at_end, goes_up, no_more, one_more, opened_to, passed, starts}
use Rattle.ls_order_search.proofs.searching.search.Goals as goal

pub places-init : goal.places-init
places-init c = (
  omega arith,
  [],
  c.no_calls-pool.ensures,
  starts c.args.events c.args.calls.now (held c.new-set.result) [] c.new-placed.result.items refl
      c.new-placed.ensures.items (λ z. ap (λ ks. list_any (is_at (int_cmp z)) ks) c.new-set.ensures.empty) c.requires,
)

pub due-preserved : goal.due-preserved
due-preserved c =
    let so = c.due.invariant in
    let due = MatchBool-at_true (Due c.places.at c.args.calls.now c.due.next) (NotDue c.places.at c.args.calls.now
    c.due.next) c.due-test.true c.is_due.ensures in (
      so.0,
      _,
      c.in_ok-open_call.ensures so.1 (one_more c.args.events c.args.calls.now c.places.at c.due.next (held c.places.set)
          so.1 c.places.placed.items _ c.due.end so.3 due) so.2,
      opened_to c.args.events c.args.calls.now c.places.at c.due.next (held c.places.set) so.1 c.places.placed.items _ _
          c.due.end c.end_within-end.result so.3 due refl c.end_within-end.ensures.from c.end_within-end.ensures.within
          c.end_within-end.ensures.lasts,
    )

pub end_within-end-requires : goal.end_within-end-requires
end_within-end-requires c = c.due.invariant.3.from

pub pass-requires : goal.pass-requires
pass-requires c = record { here = c.due.invariant.0; within = c.due.invariant.3.within }

pub returns-in_default-clause-none : goal.returns-in_default-clause-none
returns-in_default-clause-none c =
    let at = c.places.at in
    let calls = c.args.calls.now in
    let s = held c.places.set in
    let so = c.due.invariant in
    let placed = c.places.placed.items in
    no_more c.args.events calls at c.due.next s so.1 placed so.3.between
    (MatchBool-at_false (Due at calls c.due.next) (NotDue at calls c.due.next) c.due-test.false c.is_due.ensures)
    (MatchOption-at_none (Stuck at s so.1) (PassedTo at c.due.end c.args.events s (held c.pass.new.set) so.1
    c.pass.new.pool placed c.pass.new.placed.items) c.in_default.is (c.in_ok-passed.ensures so.1 so.2))

pub next_call-at-requires : goal.next_call-at-requires
next_call-at-requires c = c.due.invariant.3.between.rising

pub places-preserved : goal.places-preserved
places-preserved c =
    let at = c.places.at in
    let calls = c.args.calls.now in
    let s = held c.places.set in
    let so = c.due.invariant in
    let placed = c.places.placed.items in
    let next = c.next_call-at in
    let h = MatchOption-at_some (Stuck at s so.1) (PassedTo at c.due.end c.args.events s (held c.pass.new.set) so.1
    c.pass.new.pool placed c.pass.new.placed.items) c.in-Some.passed c.in-Some.is (c.in_ok-passed.ensures so.1 so.2) in
    let o = passed c.args.events calls at c.due.next s so.1 placed so.3.between
    (MatchBool-at_false (Due at calls c.due.next) (NotDue at calls c.due.next) c.due-test.false c.is_due.ensures)
    (held c.pass.new.set) h.less c.pass.new.placed.items c.due.end c.in-Some.passed next.result so.3.lasts h.passed
    next.ensures.within next.ensures.comes (next.ensures.last (at + 1)) in
    (omega (arith, o.from, o.within), h.less, h.holds, o)

pub places-smaller : goal.places-smaller
places-smaller c =
    let at = c.places.at in
    let calls = c.args.calls.now in
    let s = held c.places.set in
    let so = c.due.invariant in
    let placed = c.places.placed.items in
    let next = c.next_call-at in
    let h = MatchOption-at_some (Stuck at s so.1) (PassedTo at c.due.end c.args.events s (held c.pass.new.set) so.1
    c.pass.new.pool placed c.pass.new.placed.items) c.in-Some.passed c.in-Some.is (c.in_ok-passed.ensures so.1 so.2) in
    let up : at + 1 ≤ next.result = goes_up c.args.events calls at c.due.next s so.1 placed so.3.between
    (MatchBool-at_false (Due at calls c.due.next) (NotDue at calls c.due.next) c.due-test.false c.is_due.ensures)
    c.in-Some.passed next.result h.passed.later (next.ensures.last (at + 1)) in
    omega (arith, so.0)

pub returns-clause-some : goal.returns-clause-some
returns-clause-some c =
    let h = c.places.invariant in
    let e : c.places.at ≡ c.args.events = omega arith in
    at_end c.args.events c.args.calls.now c.places.next (held c.places.set) h.1 c.places.placed.items
    (subst (λ n. Between c.args.events c.args.calls.now n c.places.next (held c.places.set) h.1
    c.places.placed.items) e h.3.between)
