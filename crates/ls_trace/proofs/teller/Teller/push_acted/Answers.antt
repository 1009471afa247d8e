-- Why `Teller::push_acted` in src/teller.rt keeps its clause `out`.

use Rattle.std.proofs.Common.{◌++◌, ap, ◌∙◌, string_bytes}
use Rattle.std.proofs.lemmas.Result.{on_ok_weaker}
use Rattle.ls_labels.specs.Labels.{label_at}
use Rattle.ls_trace.specs.Deeds.{deed_words, tail_text}
use Rattle.ls_trace.specs.Lines.{who}
use Rattle.ls_trace.specs.SeenTeller.{names_in, told_of}
use Rattle.ls_trace.specs.Told.{Told}
use Rattle.ls_trace.proofs.Wholes.{told_whole}
use Rattle.ls_trace.proofs.teller.Teller.push_acted.Goals as goal

pub returns-in_ok-push_deed-in-Some-clause-out : goal.returns-in_ok-push_deed-in-Some-clause-out
returns-in_ok-push_deed-in-Some-clause-out c =
    let self = c.args.self.now in
    let names = names_in self in
    let ls = self.labels.items in
    let a = c.args.action.now in
    let d = c.in-Some.deed in
    let before = string_bytes c.push_deed.new.out in
    on_ok_weaker c.push_tail.result
    (λ told. told_whole names ls c.args.thread a (string_bytes c.args.out.now) (who names (told_of self) c.args.thread)
    (deed_words names (label_at ls d.object) d) before (string_bytes c.push_tail.new.out)
    c.in_ok-push_deed-in-Some.ensures.out
    (c.in-Some.ensures names ls c.args.thread)
    (told
    ∙ ap (λ n. before ++ tail_text n c.deref-in-Some.result.now a) c.push_deed.ensures.names
    ∙ ap (λ l. before ++ tail_text names l a)
    (c.deref-in-Some.ensures.value ∙ ap (λ (t : Told). t.labels) c.push_deed.ensures.run)))
    c.push_tail.ensures
