-- Why `merge_tallies` in src/merging.rt keeps its contract.

use Rattle.std.proofs.Common.{◌≡◌, ◌∙◌, ◌<◌, ◌≤◌, ◌^◌, ap, map, subst, sym, true≢false, string_bytes}
use Rattle.std.proofs.lemmas.Result.{err_from_is_err_and}
use Rattle.ls_tallies.specs.Plain.{plain_row}
use Rattle.ls_tallies.specs.Printing.{rows_text}
use Rattle.ls_tallies.specs.Tallies.{IsMerge, total_of}
use Rattle.ls_commands.specs.Merging.{IsOther, Other, TooGreat}
use Rattle.ls_commands.proofs.MergedLemmas.{not_read, printed}
use Rattle.ls_commands.proofs.merging.merge_tallies.Goals as goal

pub returns-in_err-rows : goal.returns-in_err-rows
returns-in_err-rows c =
    let p = err_from_is_err_and c.from_residual.result c.from_residual.ensures.1 in
    rw (p.1, p.2) (not_read c.args.wanted c.args.text.now c.in_err-rows.field-0.0 c.in_err-rows.ensures.fault)

pub returns-in_default : goal.returns-in_default
returns-in_default c =
    let rows = map plain_row c.in_ok-rows.rows.items in
    TooGreat rows c.in_ok-rows.ensures.found (subst (λ xs. 2 ^ 64 ≤ total_of (map plain_row xs))
    c.as_slice.ensures.value c.in_default.ensures.none)

pub returns-then-is_other : goal.returns-then-is_other
returns-then-is_other c =
    let rows = map plain_row c.in_ok-rows.rows.items in
    let total : c.in-Some.total ≡ total_of rows = c.in-Some.ensures.some ∙
    ap (λ xs. total_of (map plain_row xs)) c.as_slice.ensures.value in
    let other = c.is_other.ensures.is.0 c.if-is_other.true in
    Other rows c.in_ok-rows.ensures.found (subst (λ n. n < 2 ^ 64) total c.is_other.ensures.fits)
    (subst (IsOther c.args.wanted) total other)

pub returns : goal.returns
returns c =
    let rows = map plain_row c.in_ok-rows.rows.items in
    let merge = map plain_row c.in_ok-merge.merge.items in
    let total : c.in-Some.total ≡ total_of rows = c.in-Some.ensures.some ∙
    ap (λ xs. total_of (map plain_row xs)) c.as_slice.ensures.value in
    let is : IsMerge rows merge = subst (λ xs. IsMerge (map plain_row xs) merge) c.as_slice-2.ensures.value
    c.in_ok-merge.ensures in
    let said = c.in_ok-print_rows.ensures ∙ ap (λ xs. rows_text (map plain_row xs)) c.as_slice-3.ensures.value in
    printed c.args.wanted c.args.text.now (string_bytes c.in_ok-print_rows.field-0) rows merge
    c.in_ok-rows.ensures.found (subst (λ n. n < 2 ^ 64) total c.is_other.ensures.fits)
    (λ o. true≢false (sym (c.is_other.ensures.is.1 (subst (IsOther c.args.wanted) (sym total) o)) ∙
    c.if-is_other.false)) is said
