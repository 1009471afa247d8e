-- Why `row_of_thread` in src/rows.rt keeps its clauses and what it calls with.

use Rattle.std.proofs.Common.{◌≡◌, ◌∙◌, ◌++◌, Some, ap, false, map, refl, subst, true}
use Rattle.std.specs.Prelude.{slice_get, slice_index_or, string_bytes}
use Rattle.std.proofs.lemmas.Option.{slice_get-get_or}
use Rattle.std.proofs.lemmas.Result.{IfOk-weaker}
use Rattle.ls_checked.specs.CheckedTree.{File}
use Rattle.ls_labels.specs.Names.{Names, names_of}
use Rattle.ls_labels.specs.Threads.{thread_name}
use Rattle.ls_search.specs.Places.{configuration_of}
use Rattle.ls_transitions.specs.Seen.{table_of}
use Rattle.ls_transitions.specs.Tables.{Table}
use Rattle.ls_choices.specs.Points.{IsHeld, IsTurn, standing_at}
use Rattle.ls_choices.specs.Seen.{row_of}
use Rattle.ls_choices.specs.Standing.{Standing}
use Rattle.ls_choices.specs.StandingRows.{IsStandingRow}
use Rattle.ls_choices.specs.declared.points.Point.{Point}
use Rattle.ls_choices.specs.declared.turns.Turn.{Turn}
use Rattle.ls_choices.proofs.Placing.{acting_still, standing_still}
use Rattle.ls_choices.proofs.Rowing.{ended_row, row_still, row_there, still_row, unstarted_row, waiting_row}
use Rattle.ls_choices.proofs.Turning.{going}
use Rattle.ls_choices.proofs.rows.row_of_thread.Goals as goal

pub returns-in_ok-words-in-NotStarted-clause-row : goal.returns-in_ok-words-in-NotStarted-clause-row
returns-in_ok-words-in-NotStarted-clause-row c =
    let names : Names = names_of c.args.scene.now.names in
    let t : Table = table_of c.args.transitions.now in
    let t' : Table = table_of c.turn_of.new.transitions in
    let points = c.args.scene.now.points.now in
    let number = c.args.number in
    let u = c.args.thread in
    let p : Point = slice_index_or points number c.index-scene-number.result in
    let here : slice_get points number ≡ Some p =
    slice_get-get_or points number c.index-scene-number.result c.requires.there in
    let text = string_bytes c.in_ok-words-in-NotStarted.words in
    row_there names t points p number u here (still_row text false number) (row_of c.still_row.result)
    c.still_row.ensures
    (unstarted_row names t points p number u here c.requires.within c.in-NotStarted.trapped text
    (subst (λ (o : Turn). IsTurn t.file t' (configuration_of t p.place) p.place.works.items u o) c.in-NotStarted.is
    c.in_ok-trapped.ensures.turn)
    (c.in_ok-words-in-NotStarted.ensures ∙ ap (λ w. thread_name names.program u ++ w) c.start_words.ensures))

pub returns-in_ok-words-in-Ended-clause-row : goal.returns-in_ok-words-in-Ended-clause-row
returns-in_ok-words-in-Ended-clause-row c =
    let names : Names = names_of c.args.scene.now.names in
    let t : Table = table_of c.args.transitions.now in
    let t' : Table = table_of c.turn_of.new.transitions in
    let points = c.args.scene.now.points.now in
    let number = c.args.number in
    let u = c.args.thread in
    let p : Point = slice_index_or points number c.index-scene-number.result in
    let here : slice_get points number ≡ Some p =
    slice_get-get_or points number c.index-scene-number.result c.requires.there in
    let text = string_bytes c.in_ok-words-in-Ended.words in
    row_there names t points p number u here (still_row text false number) (row_of c.still_row-in-Ended.result)
    c.still_row-in-Ended.ensures
    (ended_row names t points p number u here c.requires.within c.in-Ended.trapped text
    (subst (λ (o : Turn). IsTurn t.file t' (configuration_of t p.place) p.place.works.items u o) c.in-Ended.is
    c.in_ok-trapped.ensures.turn)
    (c.in_ok-words-in-Ended.ensures ∙ ap (λ w. thread_name names.program u ++ w) c.end_words.ensures))

pub returns-in_ok-words-in-Waits-clause-row : goal.returns-in_ok-words-in-Waits-clause-row
returns-in_ok-words-in-Waits-clause-row c =
    let names : Names = names_of c.args.scene.now.names in
    let t : Table = table_of c.args.transitions.now in
    let t' : Table = table_of c.turn_of.new.transitions in
    let points = c.args.scene.now.points.now in
    let number = c.args.number in
    let u = c.args.thread in
    let p : Point = slice_index_or points number c.index-scene-number.result in
    let here : slice_get points number ≡ Some p =
    slice_get-get_or points number c.index-scene-number.result c.requires.there in
    let placed = c.requires.placed number p here in
    let grows = c.turn_of.ensures.grows in
    let text = string_bytes c.in_ok-words-in-Waits.words in
    let held : IsHeld t.file (configuration_of t p.place) p.place.works.items u c.in-Waits.work =
    subst (λ (o : Turn). IsTurn t.file t' (configuration_of t p.place) p.place.works.items u o) c.in-Waits.is
    c.in_ok-trapped.ensures.turn in
    row_there names t points p number u here (still_row text true number) (row_of c.still_row-in-Waits.result)
    c.still_row-in-Waits.ensures
    (waiting_row names t points p number u here c.requires.within t' c.in-Waits.work text
    (subst (λ (f : File). IsHeld f (configuration_of t p.place) p.place.works.items u c.in-Waits.work) placed.file_is
    held)
    (going t t' u p.place.store p.place.works.items c.in-Waits.work grows placed.numbers held.here)
    (standing_still names.file t t' p grows placed) c.in_ok-words-in-Waits.ensures)

pub acting_row-requires-clause-acts : goal.acting_row-requires-clause-acts
acting_row-requires-clause-acts c =
    let names : Names = names_of c.args.scene.now.names in
    let t : Table = table_of c.args.transitions.now in
    let t' : Table = table_of c.turn_of.new.transitions in
    let points = c.args.scene.now.points.now in
    let number = c.args.number in
    let u = c.args.thread in
    let p : Point = slice_index_or points number c.index-scene-number.result in
    let here : slice_get points number ≡ Some p =
    slice_get-get_or points number c.index-scene-number.result c.requires.there in
    acting_still t t' p u c.in-Acts.step c.turn_of.ensures.grows (c.requires.placed number p here).numbers
    (subst (λ (o : Turn). IsTurn t.file t' (configuration_of t p.place) p.place.works.items u o) c.in-Acts.is
    c.in_ok-trapped.ensures.turn)

pub returns-in-Acts-clause-row : goal.returns-in-Acts-clause-row
returns-in-Acts-clause-row c =
    let names : Names = names_of c.args.scene.now.names in
    let t : Table = table_of c.args.transitions.now in
    let t' : Table = table_of c.turn_of.new.transitions in
    let points = c.args.scene.now.points.now in
    let number = c.args.number in
    let u = c.args.thread in
    let p : Point = slice_index_or points number c.index-scene-number.result in
    let here : slice_get points number ≡ Some p =
    slice_get-get_or points number c.index-scene-number.result c.requires.there in
    IfOk-weaker c.acting_row.result
    (λ r. IsStandingRow names (map (standing_at t') points) (standing_at t' p) u (row_of r))
    (λ r. (s : Standing) → slice_get (map (standing_at t) points) number ≡ Some s →
    IsStandingRow names (map (standing_at t) points) s u (row_of r))
    (λ r is. row_there names t points p number u here (row_of r) (row_of r) refl
    (row_still names t t' points p number u (row_of r) here c.turn_of.ensures.grows c.requires.placed is))
    c.acting_row.ensures.row
