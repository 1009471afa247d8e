-- Why `some_gives` in src/giving.rt keeps its clauses and its loop `calls`.

use Rattle.std.proofs.Common.{◌≡◌, ◌∙◌, ◌⊎◌, Some, ap, arith, false, length, string_bytes, subst, sym, true}
use Rattle.std.proofs.lemmas.List.{length-map}
use Rattle.std.proofs.lemmas.Option.{slice_get-get_or, slice_get-map}
use Rattle.std.specs.Prelude.{option_map, slice_get}
use Rattle.ls_class_programs.proofs.EntrySteps.{all_items, one_item}
use Rattle.ls_family_search.specs.Judged.{calls_of, making_of}
use Rattle.ls_report.specs.Events.{Text}
use Rattle.ls_find_commands.specs.Entries.{CompilesNot}
use Rattle.ls_find_commands.specs.Giving.{Gives}
use Rattle.ls_find_commands.proofs.giving.some_gives.Goals as goal

pub returns-then-branch-clause-one : goal.returns-then-branch-clause-one
returns-then-branch-clause-one c =
    let classes = c.args.classes.now in
    let p = c.args.programs.now in
    let items = c.as_slice-calls-items.result.now in
    let i = c.loop-calls.calls-index in
    let item = c.calls-item.result in
    let One : Text → Text → Type 0 = λ m t. Gives true classes m t ⊎ CompilesNot classes m t in
    let here = ap (λ l. slice_get l i) (sym c.loop-calls.invariant.same) ∙ slice_get-map string_bytes items i ∙
    ap (option_map string_bytes) (slice_get-get_or items i item (omega (arith, c.loop-calls-test.true))) ∙
    ap (λ x. Some (string_bytes x)) (sym c.calls-item.is) in
    let one = subst (λ t. One (making_of p) t) c.as_str.ensures.value
    (subst (λ m. One m c.as_str.result.now) c.making-making.ensures
    (c.in_ok-entry_gives.ensures.one c.if-branch.true)) in
    λ same. (i, (string_bytes item, here, one))

pub loop-calls-preserved : goal.loop-calls-preserved
loop-calls-preserved c =
    let classes = c.args.classes.now in
    let p = c.args.programs.now in
    let items = c.as_slice-calls-items.result.now in
    let i = c.loop-calls.calls-index in
    let item = c.calls-item.result in
    let None : Text → Type 0 = λ t. Gives false classes (making_of p) t in
    let here = ap (λ l. slice_get l i) (sym c.loop-calls.invariant.same) ∙ slice_get-map string_bytes items i ∙
    ap (option_map string_bytes) (slice_get-get_or items i item (omega (arith, c.loop-calls-test.true))) ∙
    ap (λ x. Some (string_bytes x)) (sym c.calls-item.is) in
    let none = subst None c.as_str.ensures.value
    (subst (λ m. Gives false classes m c.as_str.result.now) c.making-making.ensures
    (c.in_ok-entry_gives.ensures.none c.if-branch.false)) in
    record {
      same = c.loop-calls.invariant.same;
      before = one_item None (calls_of p) i (string_bytes item) here none c.loop-calls.invariant.before;
    }

pub returns-clause-none : goal.returns-clause-none
returns-clause-none c =
    let p = c.args.programs.now in
    let items = c.as_slice-calls-items.result.now in
    let count : length (calls_of p) ≡ length items = ap length (sym c.loop-calls.invariant.same)
    ∙ length-map items string_bytes in
    λ same. all_items (λ t. Gives false c.args.classes.now (making_of p) t) (calls_of p) c.loop-calls.calls-index
    (omega (arith, count, c.loop-calls-test.false)) c.loop-calls.invariant.before
