-- Why `check_entries` in src/checking.rt keeps its clauses `good` and `bad` and its loop `entry`.

use Rattle.std.proofs.Common.{◌∙◌, ap, arith, length, sym, Some}
use Rattle.std.specs.Prelude.{slice_get}
use Rattle.std.proofs.lemmas.Option.{slice_get-get_or}
use Rattle.std.proofs.lemmas.Result.{err_from_is_err_and}
use Rattle.ls_class_programs.specs.Written.{entries}
use Rattle.ls_class_programs.specs.Entries.{AreCalls}
use Rattle.ls_class_programs.proofs.EntrySteps.{all_items, no_call, one_item}
use Rattle.ls_class_programs.proofs.checking.check_entries.Goals as goal

pub loop-entry-init : goal.loop-entry-init
loop-entry-init c = record {
  same = c.deref-entry-items.ensures.value ∙ c.in_ok-entries.ensures;
  before = λ k none. absurd (omega (arith, none));
}

pub loop-entry-preserved : goal.loop-entry-preserved
loop-entry-preserved c =
    let items = c.deref-entry-items.result.now in
    let i = c.loop-entry.entry-index in
    let item = c.entry-item.result in
    let here = ap (λ l. slice_get l i) (sym c.loop-entry.invariant.same) ∙
    slice_get-get_or items i item (omega (arith, c.loop-entry-test.true)) ∙ ap Some (sym c.entry-item.is) in
    record {
      same = c.loop-entry.invariant.same;
      before = one_item (AreCalls c.args.classes.now c.args.making.now c.args.threads)
          (entries c.args.menu.now) i item here
          c.in_ok-check_calls.ensures.good c.loop-entry.invariant.before;
    }

pub returns-clause-good : goal.returns-clause-good
returns-clause-good c =
    all_items (AreCalls c.args.classes.now c.args.making.now c.args.threads) (entries c.args.menu.now)
    c.loop-entry.entry-index (omega (arith, ap length c.loop-entry.invariant.same, c.loop-entry-test.false))
    c.loop-entry.invariant.before

pub returns-in_err-check_calls-clause-bad : goal.returns-in_err-check_calls-clause-bad
returns-in_err-check_calls-clause-bad c =
    let p = err_from_is_err_and c.from_residual-in_err-check_calls.result
    c.from_residual-in_err-check_calls.ensures.1 in
    let items = c.deref-entry-items.result.now in
    let i = c.loop-entry.entry-index in
    let item = c.entry-item.result in
    let here = ap (λ l. slice_get l i) (sym c.loop-entry.invariant.same) ∙
    slice_get-get_or items i item (omega (arith, c.loop-entry-test.true)) ∙ ap Some (sym c.entry-item.is) in
    rw (p.1, p.2)
    (no_call c.args.classes.now c.args.making.now c.args.threads c.args.menu.now i item here
    c.loop-entry.invariant.before
    c.in_err-check_calls.field-0.0 c.in_err-check_calls.ensures.bad)
