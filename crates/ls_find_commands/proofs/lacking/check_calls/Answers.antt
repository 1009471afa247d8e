-- Why `check_calls` in src/lacking.rt keeps its clauses `none` and `first` and its loop `call`.

use Rattle.std.proofs.Common.{◌≡◌, ◌∙◌, ◌⊎◌, [], Some, ap, arith, length, map, string_bytes, subst, sym}
use Rattle.std.proofs.lemmas.List.{length-map}
use Rattle.std.proofs.lemmas.Option.{slice_get-get_or, slice_get-map}
use Rattle.std.proofs.lemmas.Result.{err_from_is_err_and}
use Rattle.std.specs.Prelude.{option_map, slice_get}
use Rattle.ls_class_programs.proofs.EntrySteps.{all_items, one_item}
use Rattle.ls_faults.specs.declared.fault.ToolFault.TheVariants.{Memory}
use Rattle.ls_family_search.specs.Judged.{calls_of, making_of}
use Rattle.ls_report.specs.Events.{Text}
use Rattle.ls_find_commands.specs.Lacking.{HasCall, LacksOrIsNone}
use Rattle.ls_find_commands.proofs.LackingLemmas.{call_lacks, making_lacks, none_lacks}
use Rattle.ls_find_commands.proofs.lacking.check_calls.Goals as goal

pub returns-in_err-check_call-clause-first : goal.returns-in_err-check_call-clause-first
returns-in_err-check_call-clause-first c =
    let q = err_from_is_err_and c.from_residual.result c.from_residual.ensures.1 in
    let p = c.args.programs.now in
    let f = c.in_err-check_call.field-0.0 in
    rw (q.1, q.2) (making_lacks c.args.choosing c.args.reference.now c.args.classes.now p f
    (subst (λ m. (f ≡ Memory) ⊎ LacksOrIsNone c.args.choosing c.args.reference.now c.args.classes.now m [] f)
    c.making-making.ensures c.in_err-check_call.ensures.lacks))

pub loop-call-init : goal.loop-call-init
loop-call-init c = record {
  same = ap (map string_bytes) c.deref-call-items.ensures.value ∙ c.in_ok-calls.ensures;
  before = λ k none. absurd (omega (arith, none));
}

pub loop-call-preserved : goal.loop-call-preserved
loop-call-preserved c =
    let p = c.args.programs.now in
    let items = c.deref-call-items.result.now in
    let i = c.loop-call.call-index in
    let item = c.call-item.result in
    let Has : Text → Type 0 = λ call. HasCall c.args.reference.now c.args.classes.now (making_of p) call in
    let here = ap (λ l. slice_get l i) (sym c.loop-call.invariant.same) ∙ slice_get-map string_bytes items i ∙
    ap (option_map string_bytes) (slice_get-get_or items i item (omega (arith, c.loop-call-test.true))) ∙
    ap (λ x. Some (string_bytes x)) (sym c.call-item.is) in
    let had = subst (λ m. HasCall c.args.reference.now c.args.classes.now m c.as_str.result.now) c.making-making.ensures
    c.in_ok-check_call-2.ensures.has in
    record {
      same = c.loop-call.invariant.same;
      before = one_item Has (calls_of p) i (string_bytes item) here (subst Has c.as_str.ensures.value had)
          c.loop-call.invariant.before;
    }

pub returns-in_err-check_call-2-clause-first : goal.returns-in_err-check_call-2-clause-first
returns-in_err-check_call-2-clause-first c =
    let q = err_from_is_err_and c.from_residual-in_err-check_call-2.result
    c.from_residual-in_err-check_call-2.ensures.1 in
    let p = c.args.programs.now in
    let f = c.in_err-check_call-2.field-0.0 in
    let items = c.deref-call-items.result.now in
    let i = c.loop-call.call-index in
    let item = c.call-item.result in
    let here = ap (λ l. slice_get l i) (sym c.loop-call.invariant.same) ∙ slice_get-map string_bytes items i ∙
    ap (option_map string_bytes) (slice_get-get_or items i item (omega (arith, c.loop-call-test.true))) ∙
    ap (λ x. Some (string_bytes x)) (sym c.call-item.is) in
    let making = subst (λ m. HasCall c.args.reference.now c.args.classes.now m []) c.making-making.ensures
    c.in_ok-check_call.ensures.has in
    rw (q.1, q.2) (call_lacks c.args.choosing c.args.reference.now c.args.classes.now p making i (string_bytes item)
    here
    c.loop-call.invariant.before f
    (subst (λ t. (f ≡ Memory) ⊎ LacksOrIsNone c.args.choosing c.args.reference.now c.args.classes.now (making_of p) t f)
    c.as_str.ensures.value
    (subst (λ m. (f ≡ Memory) ⊎ LacksOrIsNone c.args.choosing c.args.reference.now c.args.classes.now m
    c.as_str.result.now f) c.making-making.ensures c.in_err-check_call-2.ensures.lacks)))

pub returns-clause-none : goal.returns-clause-none
returns-clause-none c =
    let p = c.args.programs.now in
    let items = c.deref-call-items.result.now in
    let making = subst (λ m. HasCall c.args.reference.now c.args.classes.now m []) c.making-making.ensures
    c.in_ok-check_call.ensures.has in
    let count : length (calls_of p) ≡ length items = ap length (sym c.loop-call.invariant.same)
    ∙ length-map items string_bytes in
    none_lacks c.args.choosing c.args.reference.now c.args.classes.now p making
    (all_items (λ call. HasCall c.args.reference.now c.args.classes.now (making_of p) call) (calls_of p)
    c.loop-call.call-index (omega (arith, count, c.loop-call-test.false)) c.loop-call.invariant.before)
