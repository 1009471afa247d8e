-- Why `folded_trace` in src/folding.rt keeps its contract and its loop `place`.

use Rattle.std.proofs.Common.{◌+◌, ◌++◌, rules, ap, refl, ◌∙◌, take, get_or, string_bytes}
use Rattle.std.specs.Prelude.{flat_map, map, nat_le}
use Rattle.std.proofs.lemmas.List.{take_min}
use Rattle.ls_labels.specs.Names.{Names, names_of}
use Rattle.ls_trace.specs.Folds.{Fold, counted, fold_line, folded, step_told, steps_told}
use Rattle.ls_trace.specs.SeenFolder.{open_of}
use Rattle.ls_trace.specs.SeenTeller.{told_of}
use Rattle.ls_trace.specs.Told.{after_step, begun}
use Rattle.ls_trace.proofs.LinesLeft.{at_end, at_start, counted_at_most, none_at_first, open_if, rest_after, written_if}
use Rattle.ls_trace.proofs.folding.folded_trace.Goals as goal

pub loop-place-init : goal.loop-place-init
loop-place-init c =
    let names = names_of c.args.names in
    let start = c.in_ok-folder.ensures in
    record {
      names = start.names;
      runs = start.runs;
      room = none_at_first c.in_ok-folder.folder.counts.items names.program.threads start.counts;
      text = at_start names c.args.from c.in_ok-folder.folder.counts.items (map (λ t. 0) names.program.threads)
          (told_of c.in_ok-folder.folder.teller) (begun names.program)
          (string_bytes c.new-text.result) (open_of c.in_ok-folder.folder) (take c.min.result c.args.schedule.now)
          start.counts start.run c.new-text.ensures.bytes start.open;
    }

pub loop-place-preserved : goal.loop-place-preserved
loop-place-preserved c =
    let names = names_of c.args.names in
    let from = c.args.from in
    let ts = take c.min.result c.args.schedule.now in
    let i = c.loop-place.place in
    let t = get_or ts i 0 in
    let old = c.loop-place.folder in
    let new = c.step.new.self in
    let before = string_bytes c.loop-place.text in
    let inv = c.loop-place.invariant in
    let same = inv.names in
    let step : Names → Fold = λ n. step_told n (i + 1) (counted old.counts.items t) (told_of old.teller)
    (after_step n (told_of old.teller) t) t in
    record {
      names = c.step.ensures.names ∙ same;
      runs = c.in_ok-step.ensures.runs;
      room = counted_at_most old.counts.items new.counts.items t i c.in_ok-step.ensures.counts inv.room;
      text = rest_after names from (i + 1) i 0 old.counts.items new.counts.items (told_of old.teller)
          (told_of new.teller) (nat_le from (i + 1)) (open_of old) (open_of new) ts
          before (string_bytes c.step.new.out) _ (search rules) refl
          c.in_ok-step.ensures.counts
          (c.in_ok-step.ensures.run ∙ ap (λ n. after_step n (told_of old.teller) t) same)
          (c.in_ok-step.ensures.out ∙ ap (λ n. before ++ written_if (nat_le from (i + 1)) (open_of old) (step n)) same)
          (c.in_ok-step.ensures.open ∙ ap (λ n. open_if (nat_le from (i + 1)) (open_of old) (step n)) same)
          inv.text;
    }

pub returns : goal.returns
returns c =
    let names = names_of c.args.names in
    let ts = take c.min.result c.args.schedule.now in
    at_end names c.args.from (c.loop-place.place + 1) c.loop-place.place c.loop-place.folder.counts.items
    (told_of c.loop-place.folder.teller)
    (string_bytes c.loop-place.text) (string_bytes c.push_open.new.out) (open_of c.loop-place.folder) ts (search rules)
    c.in_ok-push_open.ensures
    ∙ c.loop-place.invariant.text
    ∙ ap (λ l. flat_map fold_line
    (folded (steps_told names c.args.from 1 (map (λ t. 0) names.program.threads) (begun names.program) l)))
    (ap (λ n. take n c.args.schedule.now) c.min.ensures ∙ take_min c.args.to c.args.schedule.now)
