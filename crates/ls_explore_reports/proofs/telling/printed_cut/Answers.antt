-- Why `printed_cut` in src/telling.rt keeps its contract and what it calls with.

use Rattle.std.proofs.Common.{◌≡◌, ◌∙◌, ◌<◌, ◌≤◌, ap, arith, length, string_bytes, subst, take}
use Rattle.std.proofs.lemmas.Result.{err_from_is_err_and}
use Rattle.ls_events.specs.Limits.{most_steps}
use Rattle.ls_explore.specs.Rows.{Told}
use Rattle.ls_labels.specs.Names.{names_of}
use Rattle.ls_schedule.specs.Reading.{thread_names}
use Rattle.ls_explore.specs.Tellings.{schedule_of}
use Rattle.ls_explore_reports.specs.Cuts.{IsOfLeast, with_known}
use Rattle.ls_explore_reports.specs.Printing.{row_text}
use Rattle.ls_explore_reports.specs.Shortest.{IsCutOrShorter}
use Rattle.ls_explore_reports.proofs.CutRows.{as_error, cut_is, cut_of, if_ok, least_cut, long_there, place_within}
use Rattle.ls_explore_reports.proofs.CutRows.{row_so}
use Rattle.ls_explore_reports.proofs.CutTexts.{begun_text, cut_named, whole_text}
use Rattle.ls_translation.specs.declared.fault.TranslationFault.TheVariants.{ResultTooLong}
use Rattle.ls_explore_reports.proofs.telling.printed_cut.Goals as goal

pub returns-in_err-schedule-clause-long : goal.returns-in_err-schedule-clause-long
returns-in_err-schedule-clause-long c =
    let names = names_of c.args.names in
    let k = c.args.found.now.setup in
    let judged = c.args.judged.now in
    let within = place_within names.file names.program k judged c.requires.so c.args.cut c.requires.cut in
    let p = err_from_is_err_and c.from_residual.result c.from_residual.ensures.1 in
    rw (p.1, p.2) (λ wrong. long_there k judged c.args.cut.place c.index-judged-cut.result within c.index-judged-cut.is
    (subst (λ (r : Told). most_steps < length (schedule_of k r)) c.row.ensures
    (c.in_err-schedule.ensures.long (as_error c.in_err-schedule.field-0.0 ResultTooLong wrong))))

pub first_steps-requires : goal.first_steps-requires
first_steps-requires c =
    let names = names_of c.args.names in
    let k = c.args.found.now.setup in
    let row = c.index-judged-cut.result in
    let cut = cut_is names.file names.program k c.args.judged.now c.requires.so c.args.cut c.requires.cut row
    c.index-judged-cut.is in
    let same = c.in_ok-schedule.ensures.steps ∙ ap (schedule_of k) c.row.ensures in
    let le = cut.within in
    omega (arith, le, ap length same)

pub shortest_illegal-requires-clause-cut : goal.shortest_illegal-requires-clause-cut
shortest_illegal-requires-clause-cut c =
    let names = names_of c.args.names in
    let k = c.args.found.now.setup in
    cut_of names.file names.program k c.args.judged.now c.requires.so c.args.cut c.requires.cut
    c.index-judged-cut.result
    c.index-judged-cut.is c.in_ok-first.first
    (c.in_ok-first.ensures ∙ ap (take c.args.cut.steps) (c.in_ok-schedule.ensures.steps ∙
    ap (schedule_of k) c.row.ensures))

pub beginning-requires : goal.beginning-requires
beginning-requires c =
    let names = names_of c.args.names in
    let k = c.args.found.now.setup in
    let judged = c.args.judged.now in
    let row = c.index-judged-cut.result in
    let at = c.index-judged-cut.is in
    let cut = cut_is names.file names.program k judged c.requires.so c.args.cut c.requires.cut row at in
    let so = row_so names.file names.program k judged c.requires.so c.args.cut c.requires.cut row at in
    let first = c.in_ok-first.ensures
    ∙ ap (take c.args.cut.steps) (c.in_ok-schedule.ensures.steps ∙ ap (schedule_of k) c.row.ensures) in
    cut_named names (thread_names c.args.names.program.now) k c.args.exploring row c.args.cut.steps cut so.acts
    c.in_ok-run.run'.shortest c.in_ok-run.run'.schedule
    (subst (λ ts. IsCutOrShorter names c.args.exploring ts c.in_ok-run.run'.schedule) first
    c.in_ok-run.ensures.schedule)

pub returns-then-len-clause-text : goal.returns-then-len-clause-text
returns-then-len-clause-text c =
    let names = names_of c.args.names in
    let k = c.args.found.now.setup in
    let judged = c.args.judged.now in
    let row = c.index-judged-cut.result in
    let at = c.index-judged-cut.is in
    let least = least_cut names.file names.program k judged c.requires.so c.args.cut c.requires.cut row at in
    let so = row_so names.file names.program k judged c.requires.so c.args.cut c.requires.cut row at in
    let same = c.in_ok-schedule.ensures.steps ∙ ap (schedule_of k) c.row.ensures in
    let first = c.in_ok-first.ensures ∙ ap (take c.args.cut.steps) same in
    let run = c.in_ok-run.run' in
    record {
      row = row;
      least = least;
      is = begun_text names (thread_names c.args.names.program.now) k c.args.exploring row c.args.cut.steps
          least.cut so.acts
          run.shortest run.schedule (string_bytes c.in_ok-text.text)
          (subst (λ ts. IsCutOrShorter names c.args.exploring ts run.schedule) first c.in_ok-run.ensures.schedule)
          c.in_ok-run.ensures.known
          (omega (arith, c.if-len.true, c.len.ensures, c.len-2.ensures, ap length same))
          c.in_ok-text.ensures;
    }

pub returns-clause-text : goal.returns-clause-text
returns-clause-text c =
    let names = names_of c.args.names in
    let threads = thread_names c.args.names.program.now in
    let k = c.args.found.now.setup in
    let e = c.args.exploring in
    let judged = c.args.judged.now in
    let row = c.index-judged-cut.result in
    let at = c.index-judged-cut.is in
    let steps = c.args.cut.steps in
    let least = least_cut names.file names.program k judged c.requires.so c.args.cut c.requires.cut row at in
    let so = row_so names.file names.program k judged c.requires.so c.args.cut c.requires.cut row at in
    let same = c.in_ok-schedule.ensures.steps ∙ ap (schedule_of k) c.row.ensures in
    let first = c.in_ok-first.ensures ∙ ap (take steps) same in
    let run = c.in_ok-run.run' in
    let le : length (schedule_of k row.row) ≤ length run.schedule =
    omega (arith, c.if-len.false, c.len.ensures, c.len-2.ensures, ap length same) in
    if_ok c.whole_row.result (λ text. string_bytes text ≡ row_text names threads k (with_known run.shortest row))
    (λ text. IsOfLeast names threads k judged e steps (string_bytes text))
    (λ text is. record {
      row = row;
      least = least;
      is = whole_text names threads k e row steps least.cut so.acts run.shortest run.schedule (string_bytes text)
          (subst (λ ts. IsCutOrShorter names e ts run.schedule) first c.in_ok-run.ensures.schedule)
          c.in_ok-run.ensures.known le is;
    })
    c.whole_row.ensures.text
