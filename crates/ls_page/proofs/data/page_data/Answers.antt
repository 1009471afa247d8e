-- Why `page_data` in src/data.rt keeps its contract.

use Rattle.std.proofs.Common.{◌∙◌, ◌++◌, ap, codes}
use Rattle.ls_report.specs.Events.{Text}
use Rattle.ls_labels.specs.Names.{names_of}
use Rattle.ls_page.specs.Data.{run_fields, texts_of}
use Rattle.ls_page.proofs.data.page_data.Goals as goal

pub returns : goal.returns
returns c =
    let run : Text = run_fields (names_of c.args.names) (texts_of c.args.texts) c.args.steps.now c.args.window.from
    c.args.window.to in
    c.in_ok-push_str.ensures.bytes
    ∙ ap (λ w. w ++ codes "}\n") (c.in_ok-push_run.ensures ∙ ap (λ w. w ++ run) c.new-out.ensures.bytes)
