-- Why `told_changes` in src/changes.rt keeps its loop `place`.

use Rattle.std.proofs.Common.{◌+◌, ◌++◌, ◌∙◌, ap, get_or, rules, string_bytes}
use Rattle.std.specs.Prelude.{nat_le}
use Rattle.ls_labels.specs.Names.{names_of}
use Rattle.ls_trace.specs.SeenTeller.{told_of}
use Rattle.ls_trace.specs.Told.{after_step}
use Rattle.ls_page.specs.Changes.{line_of}
use Rattle.ls_page.specs.SeenChanges.{text_told, words_told}
use Rattle.ls_page.proofs.Changing.{rest_after}
use Rattle.ls_page.proofs.changes.told_changes.Goals as goal

pub loop-place-preserved : goal.loop-place-preserved
loop-place-preserved c =
    let names = names_of c.args.names in
    let from = c.args.window.from in
    let ts = c.first_steps-shown.result.now in
    let i = c.loop-place.place in
    let t = get_or ts i 0 in
    let old = told_of c.loop-place.teller in
    let text = string_bytes c.loop-place.changes.text in
    let words = string_bytes c.loop-place.changes.words in
    let is = nat_le from (i + 1) in
    let same = c.loop-place.invariant.names in
    let step = c.in_ok-tell.ensures in
    record {
      names = c.tell.ensures.names ∙ same;
      runs = step.runs;
      text = rest_after names from (i + 1) i 0 old (told_of c.tell.new.teller) ts text
          (string_bytes c.tell.new.changes.text) words (string_bytes c.tell.new.changes.words) _ (search rules)
          (step.run ∙ ap (λ n. after_step n old t) same)
          (step.text ∙ ap (λ n. text ++ text_told is words (line_of n (i + 1) old t)) same)
          (step.words ∙ ap (λ n. words_told is words (line_of n (i + 1) old t)) same)
          c.loop-place.invariant.text;
    }
