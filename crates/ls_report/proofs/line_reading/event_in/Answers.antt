-- Why `event_in` in src/line_reading.rt keeps its clauses `reads` and `exact`.

use Rattle.std.proofs.Common.{◌∙◌, ap, sym, Some}
use Rattle.std.specs.Prelude.{option_map}
use Rattle.ls_report.specs.Plain.{plain_occurrence}
use Rattle.ls_report.specs.Cut.{cut}
use Rattle.ls_report.proofs.Exact.{event_exact}
use Rattle.ls_report.proofs.CutLemmas.{cut_parts, first_of_two, none_is, second_of_two, some_is}
use Rattle.ls_report.proofs.Parts.{number_cut, same_event, thread_cut, well_named}
use Rattle.ls_report.proofs.line_reading.event_in.Goals as goal

pub returns-in_default-clause-reads : goal.returns-in_default-clause-reads
returns-in_default-clause-reads c = λ e h n is. absurd (none_is
    (c.in_default.ensures ∙ ap (cut 46) is ∙ thread_cut e h))

pub returns-in_default-cut-clause-reads : goal.returns-in_default-cut-clause-reads
returns-in_default-cut-clause-reads c = λ e h n is.
    let rest = second_of_two c.in-Some.thread.now c.in-Some.rest.now _ _
    (c.in-Some.ensures ∙ ap (cut 46) is ∙ thread_cut e h) in
    absurd (none_is (c.in_default-cut.ensures ∙ ap (cut 32) rest ∙ number_cut e n))

pub returns-in_default-number_in-clause-reads : goal.returns-in_default-number_in-clause-reads
returns-in_default-number_in-clause-reads c = λ e h n is.
    let rest = second_of_two c.in-Some.thread.now c.in-Some.rest.now _ _
    (c.in-Some.ensures ∙ ap (cut 46) is ∙ thread_cut e h) in
    let number = first_of_two c.in-Some-cut.number.now c.in-Some-cut.text.now _ _
    (c.in-Some-cut.ensures ∙ ap (cut 32) rest ∙ number_cut e n) in
    absurd (none_is (c.in_default-number_in.ensures.reads e.call n number))

pub returns-in_default-2-clause-reads : goal.returns-in_default-2-clause-reads
returns-in_default-2-clause-reads c = λ e h n is.
    let rest = second_of_two c.in-Some.thread.now c.in-Some.rest.now _ _
    (c.in-Some.ensures ∙ ap (cut 46) is ∙ thread_cut e h) in
    let text = second_of_two c.in-Some-cut.number.now c.in-Some-cut.text.now _ _
    (c.in-Some-cut.ensures ∙ ap (cut 32) rest ∙ number_cut e n) in
    let none = ap (option_map plain_occurrence) (sym c.in_default-2.is) in
    absurd (none_is (none ∙ c.in_ok-occurrence.ensures.reads e.occurrence (well_named e h) text))

pub returns-clause-reads : goal.returns-clause-reads
returns-clause-reads c = λ e h n is.
    let threads = c.in-Some.ensures ∙ ap (cut 46) is ∙ thread_cut e h in
    let rest = second_of_two c.in-Some.thread.now c.in-Some.rest.now _ _ threads in
    let numbers = c.in-Some-cut.ensures ∙ ap (cut 32) rest ∙ number_cut e n in
    let number = first_of_two c.in-Some-cut.number.now c.in-Some-cut.text.now _ _ numbers in
    let text = second_of_two c.in-Some-cut.number.now c.in-Some-cut.text.now _ _ numbers in
    let thread = first_of_two c.in-Some.thread.now c.in-Some.rest.now _ _ threads in
    let some = ap (option_map plain_occurrence) (sym c.in-Some-2.is) in
    ap Some (same_event _ _ _ e thread (some_is (c.in-Some-number_in.ensures.reads e.call n number))
    (some_is (some ∙ c.in_ok-occurrence.ensures.reads e.occurrence (well_named e h) text)))

pub returns-clause-exact : goal.returns-clause-exact
returns-clause-exact c =
    let line = cut_parts 46 c.args.line.now c.in-Some.thread.now c.in-Some.rest.now c.in-Some.ensures in
    let rest = cut_parts 32 c.in-Some.rest.now c.in-Some-cut.number.now c.in-Some-cut.text.now c.in-Some-cut.ensures in
    let number = c.in-Some-number_in.ensures.exact in
    let text = rw c.in-Some-2.is at c.in_ok-occurrence.ensures.exact in
    event_exact c.args.line.now c.in-Some.thread.now c.in-Some.rest.now c.in-Some-cut.number.now c.in-Some-cut.text.now
    _ _ line rest number text
