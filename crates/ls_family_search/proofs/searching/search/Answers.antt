-- Why `search` in src/searching.rt keeps its clauses `finding` and `good` and its loop `next`.

use Rattle.std.proofs.Common.{◌≡◌, ◌+◌, ◌-◌, ◌≤◌, ℕ, List, ap, sym, subst, arith, length, Some, append-nil, []}
use Rattle.std.proofs.lemmas.List.{length-append}
use Rattle.std.specs.Prelude.{slice_get}
use Rattle.ls_families.specs.Families.{plans}
use Rattle.ls_family_search.specs.Searched.{HaltsAt, PassesAt}
use Rattle.ls_family_search.specs.Windows.{IsJoined}
use Rattle.ls_family_search.specs.declared.judging.Passed.{Passed}
use Rattle.ls_family_search.proofs.Outcomes.{AreOutcomes, each_of_both, halts_in, many_pass, passed_in}
use Rattle.ls_family_search.proofs.Passing.{passed_good}
use Rattle.ls_family_search.proofs.searching.search.Goals as goal

pub returns-in-Some-clause-finding : goal.returns-in-Some-clause-finding
returns-in-Some-clause-finding g c =
    let p = c.args.programs.now in
    let Good = g.J.Judge.IsGood c.args.judge.now in
    let Cut = g.J.Judge.IsCut c.args.judge.now in
    let Halts = g.J.Judge.Halts c.args.judge.now in
    let xs = c.loop-next.passed.items in
    let from = c.args.numbers.from in
    let next = c.loop-next.next in
    let last = c.min-last.result in
    let joined = subst (IsJoined c.in_ok-outcomes.outcomes.items xs c.join.new.passed.items) c.in-Some.is
    c.in_ok-halted.ensures in
    let zip = subst (AreOutcomes p Good Cut Halts from next (last - next)) joined.2 c.in_ok-outcomes.ensures in
    let there : next + (last - next) ≤ length (plans p.family) =
    omega (arith, c.min-last.ensures, c.saturating_add.ensures, c.requires.there, c.loop-next.invariant.within) in
    let long : next + length joined.0 ≡ from + length c.join.new.passed.items =
    omega (arith, c.loop-next.invariant.count, ap length joined.3, length-append xs joined.0) in
    record {
      passed = subst (λ (l : List Passed). (k : ℕ) (said : Passed) → slice_get l k ≡ Some said →
          PassesAt p Good Cut from (from + k) said) (sym joined.3)
          (each_of_both (λ k said. PassesAt p Good Cut from (from + k) said) xs joined.0 c.loop-next.invariant.passed
          (λ k said is.
          let e : next + k ≡ from + (length xs + k) = omega (arith, c.loop-next.invariant.count) in
          subst (λ m. PassesAt p Good Cut from m said) e
          (passed_in p Good Cut Halts from next (last - next) joined.0 _ zip there k said is)));
      ends = subst (λ m. HaltsAt p Halts m c.in-Some.halted) long
          (halts_in p Good Cut Halts from next (last - next) joined.0 c.in-Some.halted joined.1 zip there);
    }

pub returns-in-Some-clause-good : goal.returns-in-Some-clause-good
returns-in-Some-clause-good g c =
    passed_good c.args.programs.now (g.J.Judge.IsGood c.args.judge.now) (g.J.Judge.IsCut c.args.judge.now)
    c.args.numbers.from c.join.new.passed.items (returns-in-Some-clause-finding g c).passed

pub returns-clause-good : goal.returns-clause-good
returns-clause-good g c =
    passed_good c.args.programs.now (g.J.Judge.IsGood c.args.judge.now) (g.J.Judge.IsCut c.args.judge.now)
    c.args.numbers.from c.loop-next.passed.items c.loop-next.invariant.passed

pub loop-next-preserved : goal.loop-next-preserved
loop-next-preserved g c =
    let p = c.args.programs.now in
    let Good = g.J.Judge.IsGood c.args.judge.now in
    let Cut = g.J.Judge.IsCut c.args.judge.now in
    let Halts = g.J.Judge.Halts c.args.judge.now in
    let xs = c.loop-next.passed.items in
    let from = c.args.numbers.from in
    let next = c.loop-next.next in
    let last = c.min-last.result in
    let joined = subst (IsJoined c.in_ok-outcomes.outcomes.items xs c.join.new.passed.items) c.in_default.is
    c.in_ok-halted.ensures in
    let zip = subst (AreOutcomes p Good Cut Halts from next (last - next)) joined.1 c.in_ok-outcomes.ensures in
    let there : next + (last - next) ≤ length (plans p.family) =
    omega (arith, c.min-last.ensures, c.saturating_add.ensures, c.requires.there, c.loop-next.invariant.within) in
    let many = many_pass p Good Cut Halts from next (last - next) joined.0 zip in
    let whole = subst (AreOutcomes p Good Cut Halts from next (last - next)) (sym (append-nil _)) zip in
    record {
      passed = subst (λ (l : List Passed). (k : ℕ) (said : Passed) → slice_get l k ≡ Some said →
          PassesAt p Good Cut from (from + k) said) (sym joined.2)
          (each_of_both (λ k said. PassesAt p Good Cut from (from + k) said) xs joined.0 c.loop-next.invariant.passed
          (λ k said is.
          let e : next + k ≡ from + (length xs + k) = omega (arith, c.loop-next.invariant.count) in
          subst (λ m. PassesAt p Good Cut from m said) e
          (passed_in p Good Cut Halts from next (last - next) joined.0 [] whole there k said is)));
      count = omega (
        arith,
        many,
        ap length joined.2,
        length-append xs joined.0,
        c.loop-next.invariant.count,
        c.min-last.ensures,
        c.saturating_add.ensures,
        c.loop-next.invariant.within,
      );
      within = omega (arith, c.min-last.ensures);
      some = c.grown-size.ensures;
      watched = λ then since. c.note_programs.ensures then (c.loop-next.invariant.watched then since);
    }
