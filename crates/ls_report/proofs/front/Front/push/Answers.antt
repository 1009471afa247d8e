-- Why `Front::push` in src/front.rt keeps its clause `indexed`.

use Rattle.std.proofs.Common.{◌≡◌, ◌∙◌, ap, cond, length, rules, Some}
use Rattle.std.specs.Str.{bytes_eq}
use Rattle.ls_report.specs.Events.{Text}
use Rattle.ls_report.specs.Front.{place_of}
use Rattle.ls_report.proofs.Fronts.{indexed_after, place_after}
use Rattle.ls_report.proofs.front.Front.push.Goals as goal

pub returns-clause-indexed : goal.returns-clause-indexed
returns-clause-indexed c =
    let old = c.args.self.now in
    let event = c.args.event in
    let count : c.len.result ≡ length old.events.items = search rules in
    let place : (t : Text) → place_of c.put_place.new.places t ≡ place_after old event t =
    λ t. c.in_ok-put_place.ensures t ∙ ap (λ n. cond (bytes_eq event.thread.now t) (Some n) (place_of old.places t))
    count in
    indexed_after old (record { events = c.push.new.self; places = c.put_place.new.places }) event c.requires
    c.in_ok-push.ensures.items place
