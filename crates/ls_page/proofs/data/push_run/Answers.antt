-- Why `push_run` in src/data.rt keeps its contract.

use Rattle.std.proofs.Common.{◌≡◌, ◌∙◌, ◌++◌, ℕ, ap, length, string_bytes, take}
use Rattle.std.proofs.lemmas.List.{append_assoc}
use Rattle.ls_report.specs.Events.{Text}
use Rattle.ls_labels.specs.Names.{names_of}
use Rattle.ls_page.specs.Data.{head_text, texts_of, texts_text, told_text}
use Rattle.ls_page.proofs.data.push_run.Goals as goal

pub returns : goal.returns
returns c =
    let out : Text = string_bytes c.args.out.now in
    let last : ℕ = length (take c.args.window.to c.args.steps.now) in
    let to : length c.first_steps-to.result.now ≡ last = ap length c.first_steps-to.ensures in
    let head : Text = head_text c.args.window.from last in
    let texts : Text = texts_text (texts_of c.args.texts) in
    let told : Text = told_text (names_of c.args.names) c.args.steps.now c.args.window.from c.args.window.to in
    c.in_ok-push_told.ensures
    ∙ ap (λ w. w ++ told) (c.in_ok-push_texts.ensures ∙ ap (λ w. w ++ texts)
    (c.in_ok-push_head.ensures ∙ ap (λ n. out ++ head_text c.args.window.from n) to))
    ∙ append_assoc (out ++ head) texts told
    ∙ append_assoc out head (texts ++ told)
