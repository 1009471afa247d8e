-- Why `push_beginning` in src/beginnings.rt keeps its contract.

use Rattle.std.proofs.Common.{◌≡◌, ◌+◌, ◌∙◌, ◌++◌, ◌∷◌, ℕ, [], IfSome, List, Vec, ap, map, subst, sym, take}
use Rattle.std.proofs.lemmas.List.{map-append}
use Rattle.std.specs.Global.{Global}
use Rattle.ls_checked.specs.PlainProgram.{plain_program}
use Rattle.ls_events.specs.declared.event.Event.{Event}
use Rattle.ls_explore.specs.Rows.{Told}
use Rattle.ls_verdicts.specs.Hopeless.{IsHopelessRun}
use Rattle.ls_explore_reports.specs.Judged.{Judged, is_illegal}
use Rattle.ls_explore_reports.specs.Shortest.{AreBeginnings}
use Rattle.ls_explore_reports.proofs.ListedBeginnings.{none_more, not_illegal_verdict, one_more}
use Rattle.ls_explore_reports.proofs.beginnings.push_beginning.Goals as goal

abbrev items_of : Vec Event Global → List Event
items_of v = v.items

pub returns-then-not-is_illegal : goal.returns-then-not-is_illegal
returns-then-not-is_illegal c = λ rows are.
    let program = plain_program c.args.program.now in
    let j : Judged = c.args.judged.now in
    none_more program rows (map items_of c.args.beginnings.now.items) are j
    (not_illegal_verdict program j
    (ap is_illegal (sym c.verdict.ensures) ∙ sym c.is_illegal.ensures ∙ c.if-not-is_illegal.true))

pub returns-in_ok-push : goal.returns-in_ok-push
returns-in_ok-push c = λ rows are.
    let program = plain_program c.args.program.now in
    let j : Judged = c.args.judged.now in
    let same = c.history.ensures ∙ ap (λ (r : Told). r.history) c.row.ensures in
    let some = subst (λ o. IfSome o (λ (v : Vec Event Global). (at : ℕ) ×
    IsHopelessRun program c.history.result.now at × (v.items ≡ take (at + 1) c.history.result.now))) c.in-Some.is
    c.in_ok-beginning.ensures.some in
    let hopeless = subst (λ (h : List Event). IsHopelessRun program h some.0) same some.1 in
    let is = some.2 ∙ ap (take (some.0 + 1)) same in
    subst (AreBeginnings program (rows ++ j ∷ []))
    (sym (ap (map items_of) c.in_ok-push.ensures.items
    ∙ map-append items_of c.args.beginnings.now.items (c.in-Some.beginning ∷ [])))
    (one_more program rows (map items_of c.args.beginnings.now.items) are j some.0
    (items_of c.in-Some.beginning) hopeless
    is)
