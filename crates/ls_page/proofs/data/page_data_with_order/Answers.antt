-- Why `page_data_with_order` in src/data.rt keeps its contract.

use Rattle.std.proofs.Common.{◌∙◌, ◌++◌, ap, codes}
use Rattle.std.proofs.lemmas.List.{append_assoc}
use Rattle.ls_report.specs.Events.{Text}
use Rattle.ls_labels.specs.Names.{names_of}
use Rattle.ls_page.specs.Data.{judged_of, judged_text, run_fields, texts_of}
use Rattle.ls_page.proofs.data.page_data_with_order.Goals as goal

pub returns : goal.returns
returns c =
    let run : Text = run_fields (names_of c.args.names) (texts_of c.args.texts) c.args.steps.now c.args.window.from
    c.args.window.to in
    let judged : Text = judged_text (judged_of c.args.judged) in
    let close : Text = codes "}\n" in
    c.in_ok-push_str.ensures.bytes
    ∙ ap (λ w. w ++ close) (c.in_ok-push_judged.ensures ∙ ap (λ w. w ++ judged)
    (c.in_ok-push_run.ensures ∙ ap (λ w. w ++ run) c.new-out.ensures.bytes))
    ∙ append_assoc run judged close
