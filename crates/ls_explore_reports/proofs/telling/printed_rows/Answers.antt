-- Why `printed_rows` in src/telling.rt keeps its clause `text` and what `printed_cut` requires.

use Rattle.std.proofs.Common.{◌≡◌, ◌∙◌, string_bytes, subst, sym}
use Rattle.ls_verdicts.specs.Cuts.{IsLeastOf}
use Rattle.ls_labels.specs.Names.{names_of}
use Rattle.ls_schedule.specs.Reading.{thread_names}
use Rattle.ls_explore_reports.specs.Cuts.{IsOfLeast, IsPrinted, OfACut, OfRows, schedules_of}
use Rattle.ls_explore_reports.specs.Printing.{rows_text, shown}
use Rattle.ls_explore_reports.proofs.CutRows.{both, if_ok, none_counted, some_wanted, together}
use Rattle.ls_explore_reports.proofs.telling.printed_rows.Goals as goal

pub printed_cut-requires : goal.printed_cut-requires
printed_cut-requires c =
    let names = names_of c.args.names in
    let wanted = some_wanted c.is_cut.result c.in_ok-cut.field-0 c.in-Some.cut c.in_ok-cut.ensures.none c.in-Some.is in
    record {
      so = c.requires.so;
      whole = c.requires.whole;
      cut = subst (IsLeastOf names.file names.program (schedules_of c.args.found.now.setup c.args.judged.now))
          c.in-Some.is
          (c.in_ok-cut.ensures.least wanted);
    }

pub returns-in-Some-clause-text : goal.returns-in-Some-clause-text
returns-in-Some-clause-text c =
    let names = names_of c.args.names in
    let threads = thread_names c.args.names.program.now in
    let k = c.args.found.now.setup in
    let judged = c.args.judged.now in
    let e = c.args.exploring in
    let cut = c.in-Some.cut in
    let wanted = some_wanted c.is_cut.result c.in_ok-cut.field-0 cut c.in_ok-cut.ensures.none c.in-Some.is in
    let asked = both e.illegal e.first (sym c.is_cut.ensures ∙ wanted) in
    if_ok c.printed_cut.result (λ text. IsOfLeast names threads k judged e cut.steps (string_bytes text))
    (λ text. IsPrinted names threads k judged e (string_bytes text))
    (λ text t. OfACut cut.steps (string_bytes text) asked.0 asked.1 t) c.printed_cut.ensures.text

pub returns-in-None-clause-text : goal.returns-in-None-clause-text
returns-in-None-clause-text c =
    let names = names_of c.args.names in
    let threads = thread_names c.args.names.program.now in
    let k = c.args.found.now.setup in
    let judged = c.args.judged.now in
    let e = c.args.exploring in
    let rows = rows_text names threads k (shown e judged) in
    if_ok c.shown_rows.result (λ text. string_bytes text ≡ rows)
    (λ text. IsPrinted names threads k judged e (string_bytes text))
    (λ text is. subst (IsPrinted names threads k judged e) (sym is)
    (OfRows (λ illegal first. none_counted names.file names.program k judged c.requires.so
    (subst (IsLeastOf names.file names.program (schedules_of k judged)) c.in-None.is
    (c.in_ok-cut.ensures.least (c.is_cut.ensures ∙ together e.illegal e.first illegal first))))))
    c.shown_rows.ensures.text
