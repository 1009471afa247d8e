-- Why `push_told` in src/data.rt keeps its contract.

use Rattle.std.proofs.Common.{◌∙◌, ◌-◌, ◌++◌, ap, string_bytes, take}
use Rattle.std.proofs.lemmas.List.{append_assoc}
use Rattle.ls_report.specs.Events.{Text}
use Rattle.ls_labels.specs.Names.{names_of}
use Rattle.ls_page.specs.Data.{before_text, rest_text}
use Rattle.ls_page.proofs.data.push_told.Goals as goal

pub returns : goal.returns
returns c =
    let before : Text = before_text (names_of c.args.names) (take (c.args.window.from - 1) c.args.steps.now) in
    let rest : Text = rest_text (names_of c.args.names) c.args.steps.now c.args.window.from c.args.window.to in
    c.in_ok-push_rest.ensures
    ∙ ap (λ w. w ++ rest) (c.in_ok-push_before.ensures ∙ ap (λ s. string_bytes c.args.out.now ++
    before_text (names_of c.args.names) s) c.steps_before.ensures)
    ∙ append_assoc (string_bytes c.args.out.now) before rest
