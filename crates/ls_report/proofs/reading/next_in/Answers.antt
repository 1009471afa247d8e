-- Why `next_in` in src/reading.rt keeps its clauses `none` and `some`.

use Rattle.std.proofs.Common.{◌≡◌, ◌∙◌, ap, sym, rules, true, map}
use Rattle.std.specs.Prelude.{option_map}
use Rattle.ls_report.specs.Discipline.{is_next}
use Rattle.ls_report.specs.Plain.{plain_event}
use Rattle.ls_report.proofs.CutLemmas.{some_is}
use Rattle.ls_report.proofs.Histories.{next_is_well_formed}
use Rattle.ls_report.proofs.reading.next_in.Goals as goal

pub returns-then-not-is_next-clause-none : goal.returns-then-not-is_next-clause-none
returns-then-not-is_next-clause-none c = λ e k fits is.
    let front = map plain_event c.args.front.now.events.items in
    let some = ap (option_map plain_event) (sym c.in-Some.is) in
    let same = some_is (some ∙ c.in_ok-event.ensures.reads e (next_is_well_formed front e k) fits is) in
    let yes : c.is_next.result ≡ true = c.is_next.ensures ∙ ap (is_next front) same ∙ k in
    absurd cc

pub returns-clause-some : goal.returns-clause-some
returns-clause-some c =
    let line = rw c.in-Some.is at c.in_ok-event.ensures.exact in
    (search rules, line)
