-- Why `acting_row` in src/rows.rt keeps its clause `row`.

use Rattle.std.proofs.Common.{◌≡◌, sym}
use Rattle.std.specs.Prelude.{string_bytes}
use Rattle.ls_labels.specs.Names.{names_of}
use Rattle.ls_transitions.specs.Seen.{table_of}
use Rattle.ls_choices.proofs.Placing.{did_acting, stands_acting}
use Rattle.ls_choices.proofs.Rowing.{acting_row}
use Rattle.ls_choices.proofs.rows.acting_row.Goals as goal

pub returns-clause-row : goal.returns-clause-row
returns-clause-row c =
    let names = names_of c.args.scene.now.names in
    let t = table_of c.args.transitions.now in
    let p = c.args.point.now in
    let q = c.in_ok-after.after in
    let u = c.args.thread in
    let step = c.args.step.now in
    let made = c.in_ok-after.ensures in
    acting_row names t c.args.scene.now.points.now p u q step.action step.answer (string_bytes c.in_ok-words.words)
    c.find-to.result
    (did_acting t p q u step names.file c.requires.file c.requires.acts made.store made.works made.labels made.calls)
    made.labels made.calls
    (stands_acting t p q u step names.file c.requires.file c.requires.acts made.store made.works made.labels made.calls)
    c.in_ok-words.ensures c.find-to.ensures
