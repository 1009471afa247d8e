-- Why `is_next` in src/discipline.rt keeps its contract.

use Rattle.std.proofs.Common.{◌∙◌, ◌&&◌, ap, sym, map}
use Rattle.std.specs.Prelude.{option_map}
use Rattle.std.specs.Str.{bytes_eq}
use Rattle.ls_report.specs.Events.{Event}
use Rattle.ls_report.specs.Discipline.{last_of, may_follow}
use Rattle.ls_report.specs.Plain.{plain_event}
use Rattle.ls_report.proofs.Mapped.{last-map}
use Rattle.ls_report.proofs.discipline.is_next.Goals as goal

pub returns-then-is_well_formed : goal.returns-then-is_well_formed
returns-then-is_well_formed c =
    let event = plain_event c.args.event.now in
    let events = c.args.front.now.events.items in
    c.may_follow.ensures
    ∙ ap (λ o. may_follow o event) (ap (option_map plain_event) c.last_of.ensures
    ∙ sym (last-map (λ (e : Event). bytes_eq e.thread event.thread) plain_event events))
    ∙ ap (λ b. b && may_follow (last_of event.thread (map plain_event events)) event)
    (sym c.if-is_well_formed.true ∙ c.is_well_formed.ensures)
