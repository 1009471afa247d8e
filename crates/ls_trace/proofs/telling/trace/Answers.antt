-- Why `trace` in src/telling.rt keeps its contract and its loop `place`.

use Rattle.std.proofs.Common.{◌≡◌, ◌+◌, ◌++◌, rules, ap, refl, sym, ◌∙◌, take, get_or, string_bytes}
use Rattle.std.proofs.lemmas.List.{take_min}
use Rattle.ls_labels.specs.Names.{names_of}
use Rattle.ls_trace.specs.Lines.{lines}
use Rattle.ls_trace.specs.SeenTeller.{told_of}
use Rattle.ls_trace.specs.Told.{after_step, begun, step_in}
use Rattle.ls_trace.proofs.Rests.{rest_after, at_end, told_line}
use Rattle.ls_trace.proofs.telling.trace.Goals as goal

pub loop-place-preserved : goal.loop-place-preserved
loop-place-preserved c =
    let names = names_of c.args.names in
    let from = c.args.from in
    let ts = take c.min.result c.args.schedule.now in
    let i = c.loop-place.place in
    let t = get_or ts i 0 in
    let old = told_of c.loop-place.teller in
    let new = told_of c.tell.new.self in
    let before = string_bytes c.loop-place.text in
    let same = c.loop-place.invariant.names in
    let step = c.in_ok-tell.ensures in
    let after : new ≡ after_step names old t = step.run ∙ ap (λ n. after_step n old t) same in
    record {
      names = c.tell.ensures.names ∙ same;
      runs = step.runs;
      text = rest_after names from (i + 1) i 0 old new (step_in names old t).did ts before
          (string_bytes c.tell.new.out) _ (search rules)
          after
          refl
          (step.out
          ∙ ap (λ n. before ++ told_line n from (i + 1) (after_step n old t) t (step_in n old t).did) same
          ∙ ap (λ r. before ++ told_line names from (i + 1) r t (step_in names old t).did) (sym after))
          c.loop-place.invariant.text;
    }

pub returns : goal.returns
returns c =
    let names = names_of c.args.names in
    let ts = take c.min.result c.args.schedule.now in
    at_end names c.args.from (c.loop-place.place + 1) c.loop-place.place (told_of c.loop-place.teller)
    (string_bytes c.loop-place.text) ts (search rules)
    ∙ c.loop-place.invariant.text
    ∙ ap (lines names c.args.from 1 (begun names.program)) (ap (λ n. take n c.args.schedule.now) c.min.ensures ∙
    take_min c.args.to c.args.schedule.now)
