-- Why `push_all_targets` in src/lists.rt keeps its loop `place`.

use Rattle.std.proofs.Common.{◌≡◌, ◌<◌, ◌++◌, ◌∙◌, ap, get_or, length, map, rules, string_bytes, sym}
use Rattle.ls_report.specs.Events.{Text}
use Rattle.ls_choices.specs.Seen.{row_of}
use Rattle.ls_page.specs.Lists.{element, listed, number_text}
use Rattle.ls_page.proofs.Numbered.{part_after}
use Rattle.ls_page.proofs.lists.push_all_targets.Goals as goal

pub loop-place-preserved : goal.loop-place-preserved
loop-place-preserved c =
    let all = c.args.all.now in
    let i = c.loop-place.place in
    let rows = c.index-all-place.result in
    let old : Text = string_bytes c.loop-place.out in
    let within : i < length all = search rules in
    let here : get_or all i rows ≡ rows = sym c.index-all-place.is in
    part_after (element (listed (λ row. number_text row.to))) (λ v. map row_of v.items) all i rows
    (map row_of rows.items) old (string_bytes c.push_targets_of.new.out) _ within (ap (λ v. map row_of v.items) here)
    (c.in_ok-push_targets_of.ensures
    ∙ ap (λ l. old ++ element (listed (λ row. number_text row.to)) i (map row_of l)) c.deref.ensures.value)
    c.loop-place.invariant
