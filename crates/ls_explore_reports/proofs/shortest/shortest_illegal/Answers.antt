-- Why `shortest_illegal` in src/shortest.rt keeps its clauses `known` and `schedule`.

use Rattle.std.proofs.Common.{◌∙◌, ◌++◌, ◌∷◌, ℕ, [], List, Vec, arith, inr, map, subst, sym}
use Rattle.std.specs.Global.{Global}
use Rattle.ls_checked.specs.Plain.{plain_file}
use Rattle.ls_checked.specs.PlainProgram.{plain_program}
use Rattle.ls_events.specs.declared.event.Event.{Event}
use Rattle.ls_labels.specs.Names.{names_of}
use Rattle.ls_meaning.specs.Runs.{source_history}
use Rattle.ls_explore.specs.Rows.{ActAll}
use Rattle.ls_explore_reports.specs.Judged.{are_decided}
use Rattle.ls_explore_reports.specs.Shortest.{AreBeginnings}
use Rattle.ls_explore_reports.proofs.GoingOn.{as_short, known_of, no_cells}
use Rattle.ls_explore_reports.proofs.HopelessRows.{cut_contained, one_is_illegal, shortest_of_rows}
use Rattle.ls_explore_reports.proofs.shortest.shortest_illegal.Goals as goal

abbrev items_of : Vec Event Global → List Event
items_of v = v.items

pub returns-then-len-clause-known : goal.returns-then-len-clause-known
returns-then-len-clause-known c =
    let file = plain_file c.args.names.file.now in
    let program = plain_program c.args.names.program.now in
    let judged = c.args.judged.now in
    let found = c.in_ok-schedule.field-0 in
    let are = subst (λ (vs : List (Vec Event Global)). AreBeginnings program judged (map items_of vs))
    (sym c.as_slice-histories.ensures.value) c.in_ok-beginnings.ensures in
    known_of (names_of c.args.names) c.args.exploring c.args.cut c.is_known-known.result found.shortest c.args.whole
    (are_decided judged) c.is_known-known.ensures
    (no_cells c.args.exploring.cells (sym c.is_some.ensures ∙ c.if-is_some.false))
    (λ short whole decided. as_short file program found.schedule c.args.cut
    (omega (arith, c.if-len.true, c.len.ensures, c.len-2.ensures))
    (shortest_of_rows program judged (map items_of c.as_slice-histories.result.now) are file found.schedule
    c.requires.verdicts decided (c.requires.whole whole) (c.in_ok-schedule.ensures.shortest short)))

pub returns-clause-schedule : goal.returns-clause-schedule
returns-clause-schedule c =
    let file = plain_file c.args.names.file.now in
    let program = plain_program c.args.names.program.now in
    let judged = c.args.judged.now in
    let found = c.in_ok-schedule.field-0 in
    let bs = map items_of c.as_slice-histories.result.now in
    let are = subst (λ (vs : List (Vec Event Global)). AreBeginnings program judged (map items_of vs))
    (sym c.as_slice-histories.ensures.value) c.in_ok-beginnings.ensures in
    inr (
      no_cells c.args.exploring.cells (sym c.is_some.ensures ∙ c.if-is_some.false),
      record {
        fewer = omega (arith, c.if-len.false, c.len.ensures, c.len-2.ensures);
        illegal = one_is_illegal program judged bs are (source_history file program found.schedule)
            (c.in_ok-schedule.ensures.among (cut_contained program judged bs are file c.args.cut c.requires.cut));
        goes = subst (λ (ts : List ℕ). (t : ℕ) × ActAll file program (ts ++ t ∷ [])) c.steps.ensures
            (c.in_ok-goes_on.ensures c.if-not-branch.false);
      },
    )

pub returns-clause-known : goal.returns-clause-known
returns-clause-known c =
    let file = plain_file c.args.names.file.now in
    let program = plain_program c.args.names.program.now in
    let judged = c.args.judged.now in
    let found = c.in_ok-schedule.field-0 in
    let are = subst (λ (vs : List (Vec Event Global)). AreBeginnings program judged (map items_of vs))
    (sym c.as_slice-histories.ensures.value) c.in_ok-beginnings.ensures in
    known_of (names_of c.args.names) c.args.exploring found.schedule c.is_known-known.result found.shortest c.args.whole
    (are_decided judged) c.is_known-known.ensures
    (no_cells c.args.exploring.cells (sym c.is_some.ensures ∙ c.if-is_some.false))
    (λ short whole decided. shortest_of_rows program judged (map items_of c.as_slice-histories.result.now) are file
    found.schedule c.requires.verdicts decided (c.requires.whole whole) (c.in_ok-schedule.ensures.shortest short))
