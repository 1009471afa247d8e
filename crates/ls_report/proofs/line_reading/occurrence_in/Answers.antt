-- Why `occurrence_in` in src/line_reading.rt keeps its clauses `reads` and `exact`.

use Rattle.std.proofs.Common.{◌≡◌, ◌∙◌, ap, sym, subst, Some}
use Rattle.std.specs.Prelude.{IfOk, option_map}
use Rattle.ls_report.specs.Plain.{plain_occurrence}
use Rattle.ls_report.specs.LineReading.{parts_of}
use Rattle.ls_report.proofs.CutLemmas.{none_is}
use Rattle.ls_report.specs.Events.{Text}
use Rattle.ls_report.specs.Lines.{occurrence_text}
use Rattle.ls_report.proofs.Exact.{if_exact, if_some_exact, parts_exact}
use Rattle.ls_report.proofs.Parts.{called_back, made_back, parts_is}
use Rattle.ls_report.proofs.line_reading.occurrence_in.Goals as goal

pub returns-in-None-clause-reads : goal.returns-in-None-clause-reads
returns-in-None-clause-reads c = λ o h e. absurd (none_is (c.in-None.ensures ∙ ap parts_of e ∙ parts_is o h))

pub returns-in-Some-Making-clause-reads : goal.returns-in-Some-Making-clause-reads
returns-in-Some-Making-clause-reads c = λ o h e.
    let cut = rw c.in-Some-Making.field-0-is at c.in-Some-Making.ensures in
    let made = made_back c.in-Some-Making.object.now c.in-Some-Making.class.now c.in-Some-Making.arguments.now o h
    (cut ∙ ap parts_of e ∙ parts_is o h) in
    subst (λ x. IfOk c.made_in.result (λ r. option_map plain_occurrence r ≡ Some x)) made.1
    (c.made_in.ensures.reads made.0 made.3 made.2)

pub returns-in-Some-Calling-clause-reads : goal.returns-in-Some-Calling-clause-reads
returns-in-Some-Calling-clause-reads c = λ o h e.
    let cut = rw c.in-Some-Calling.field-0-is at c.in-Some-Calling.ensures in
    let called = called_back c.in-Some-Calling.object.now c.in-Some-Calling.method.now c.in-Some-Calling.arguments.now o
    h (cut ∙ ap parts_of e ∙ parts_is o h) in
    subst (λ x. IfOk c.called_in.result (λ r. option_map plain_occurrence r ≡ Some x)) called.1
    (c.called_in.ensures.reads called.0 called.3 called.2)

pub returns-in-Some-Making-clause-exact : goal.returns-in-Some-Making-clause-exact
returns-in-Some-Making-clause-exact c =
    let cut = rw c.in-Some-Making.field-0-is at c.in-Some-Making.ensures in
    if_exact c.args.text.now _ c.made_in.result (parts_exact c.args.text.now _ (sym cut)) c.made_in.ensures.exact

pub returns-in-Some-Calling-clause-exact : goal.returns-in-Some-Calling-clause-exact
returns-in-Some-Calling-clause-exact c =
    let cut = rw c.in-Some-Calling.field-0-is at c.in-Some-Calling.ensures in
    if_exact c.args.text.now _ c.called_in.result (parts_exact c.args.text.now _ (sym cut)) c.called_in.ensures.exact

pub returns-in-Some-Giving-clause-exact : goal.returns-in-Some-Giving-clause-exact
returns-in-Some-Giving-clause-exact c =
    let cut = rw c.in-Some-Giving.field-0-is at c.in-Some-Giving.ensures in
    if_some_exact c.args.text.now _ c.returned_in.result (parts_exact c.args.text.now _ (sym cut))
    c.returned_in.ensures.exact

pub returns-in-Some-Trapping-clause-exact : goal.returns-in-Some-Trapping-clause-exact
returns-in-Some-Trapping-clause-exact c =
    let cut = rw c.in-Some-Trapping.field-0-is at c.in-Some-Trapping.ensures in
    if_some_exact c.args.text.now _ c.trapped_in.result (parts_exact c.args.text.now _ (sym cut))
    c.trapped_in.ensures.exact
