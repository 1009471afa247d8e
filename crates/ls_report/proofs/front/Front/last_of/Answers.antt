-- Why `Front::last_of` in src/front.rt keeps its contract.

use Rattle.std.proofs.Common.{◌≡◌, ◌∙◌, ap, rules, slice_get, None}
use Rattle.std.specs.Option.{option_and_then, option_copied}
use Rattle.ls_report.proofs.Fronts.{looked_up}
use Rattle.ls_report.proofs.front.Front.last_of.Goals as goal

pub returns-in_err-place : goal.returns-in_err-place
returns-in_err-place c =
    let none : option_copied c.from_residual.result ≡ None = search rules in
    none ∙ ap (option_and_then (slice_get c.args.self.now.events.items)) c.in_err-place.ensures.value ∙
    c.requires.last c.args.thread.now

pub returns : goal.returns
returns c =
    let place = c.in_ok-place.field-0.now in
    looked_up c.deref.result.now place c.get-2.result c.get-2.ensures.lookup.0 c.get-2.ensures.lookup.1
    ∙ ap (λ xs. slice_get xs place) c.deref.ensures.value
    ∙ ap (option_and_then (slice_get c.args.self.now.events.items)) c.in_ok-place.ensures.value ∙
    c.requires.last c.args.thread.now
