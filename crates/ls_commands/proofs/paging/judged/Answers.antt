-- Why `judged` in src/paging.rt keeps its contract and what `judge` requires.

use Rattle.std.proofs.Common.{◌∙◌, ap, string_bytes, sym, subst, take}
use Rattle.std.proofs.lemmas.Result.{err_from_is_err_and}
use Rattle.ls_labels.specs.Names.{names_of}
use Rattle.ls_page.specs.Data.{history_text, ordered_page_text}
use Rattle.ls_faults.specs.ReadBack.{IsHistoryText}
use Rattle.ls_commands.specs.Paged.{wanted_of}
use Rattle.ls_commands.proofs.PagedLemmas.{ordered_told, verdict_fails}
use Rattle.ls_commands.proofs.paging.judged.Goals as goal

pub judge-requires : goal.judge-requires
judge-requires c =
    subst IsHistoryText
    (sym (c.as_str.ensures.value ∙ c.in_ok-history.ensures ∙
    ap (history_text (names_of c.args.names)) c.first_steps.ensures))
    (c.requires (take c.args.wanted.window.to c.args.steps.now))

pub returns-in_err-verdict : goal.returns-in_err-verdict
returns-in_err-verdict c =
    let p = err_from_is_err_and c.from_residual-in_err-verdict.result c.from_residual-in_err-verdict.ensures.1 in
    rw (p.1, p.2)
    (verdict_fails (wanted_of c.args.wanted) (names_of c.args.names) c.args.steps.now c.args.order.now
    c.as_str.result.now
    (c.as_str.ensures.value ∙ c.in_ok-history.ensures ∙ ap (history_text (names_of c.args.names)) c.first_steps.ensures)
    c.in_err-verdict.field-0.0 c.in_err-verdict.ensures)

pub returns : goal.returns
returns c =
    let w = wanted_of c.args.wanted in
    let names = names_of c.args.names in
    let steps = c.args.steps.now in
    let order = c.args.order.now in
    ordered_told w names steps order c.as_str.result.now
    (c.as_str.ensures.value ∙ c.in_ok-history.ensures ∙ ap (history_text names) c.first_steps.ensures)
    (string_bytes c.in_ok-verdict.verdict) _ c.in_ok-verdict.ensures
    (c.in_ok-page.ensures
    ∙ ap (λ v. ordered_page_text names w.texts steps w.from w.to (record { order = order; verdict = v }))
    c.as_str-verdict.ensures.value)
