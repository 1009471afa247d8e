-- Why `turn_started` in src/turns.rt keeps its clause `turn`.

use Rattle.std.proofs.Common.{◌≡◌, ◌∙◌, Some, ap, subst, sym}
use Rattle.std.specs.Prelude.{is_some, slice_get}
use Rattle.ls_transitions.specs.Moves.{IsMove}
use Rattle.ls_transitions.specs.Seen.{table_of}
use Rattle.ls_transitions.specs.declared.moves.Move.{Move}
use Rattle.ls_choices.proofs.Turning.{acting_turn, ended_turn, got_nothing, got_there, held_turn, missing_turn}
use Rattle.ls_choices.proofs.Turning.{trapped_end}
use Rattle.ls_choices.proofs.turns.turn_started.Goals as goal

pub returns-in_default-clause-turn : goal.returns-in_default-clause-turn
returns-in_default-clause-turn c =
    let p = c.args.place.now in
    missing_turn (table_of c.args.transitions.now) c.args.thread p.store p.works.items
    (got_nothing p.works.items c.deref.result.now c.args.thread c.deref.ensures.value
    (sym c.get.ensures.lookup.0 ∙ ap is_some c.in_default.is)) c.requires.started

pub returns-in-Ended-clause-turn : goal.returns-in-Ended-clause-turn
returns-in-Ended-clause-turn c =
    let p = c.args.place.now in
    let new = table_of c.next.new.self in
    let work = c.in-Some.work.now in
    let here : slice_get p.works.items c.args.thread ≡ Some work =
    got_there p.works.items c.deref.result.now c.args.thread work c.deref.ensures.value
    (sym c.get.ensures.lookup.0 ∙ ap is_some c.in-Some.is) c.in-Some.ensures.lookup.1 in
    ended_turn (table_of c.args.transitions.now) new c.args.thread p.store p.works.items work c.next.ensures.grows
    c.requires.there here c.requires.started
    (subst (λ (m : Move). IsMove new c.args.thread p.store work m) c.in-Ended.is c.in_ok-next.ensures.made)

pub returns-in-Trapped-clause-turn : goal.returns-in-Trapped-clause-turn
returns-in-Trapped-clause-turn c =
    let p = c.args.place.now in
    let new = table_of c.next.new.self in
    let work = c.in-Some.work.now in
    let here : slice_get p.works.items c.args.thread ≡ Some work =
    got_there p.works.items c.deref.result.now c.args.thread work c.deref.ensures.value
    (sym c.get.ensures.lookup.0 ∙ ap is_some c.in-Some.is) c.in-Some.ensures.lookup.1 in
    trapped_end (table_of c.args.transitions.now) new c.args.thread p.store p.works.items work c.next.ensures.grows
    c.requires.there here c.requires.started
    (subst (λ (m : Move). IsMove new c.args.thread p.store work m) c.in-Trapped.is c.in_ok-next.ensures.made)

pub returns-in-Waits-clause-turn : goal.returns-in-Waits-clause-turn
returns-in-Waits-clause-turn c =
    let p = c.args.place.now in
    let new = table_of c.next.new.self in
    let work = c.in-Some.work.now in
    let here : slice_get p.works.items c.args.thread ≡ Some work =
    got_there p.works.items c.deref.result.now c.args.thread work c.deref.ensures.value
    (sym c.get.ensures.lookup.0 ∙ ap is_some c.in-Some.is) c.in-Some.ensures.lookup.1 in
    held_turn (table_of c.args.transitions.now) new c.args.thread p.store p.works.items work c.next.ensures.grows
    c.requires.there here c.requires.started
    (subst (λ (m : Move). IsMove new c.args.thread p.store work m) c.in-Waits.is c.in_ok-next.ensures.made)

pub returns-in-Acts-clause-turn : goal.returns-in-Acts-clause-turn
returns-in-Acts-clause-turn c =
    let p = c.args.place.now in
    let new = table_of c.next.new.self in
    let work = c.in-Some.work.now in
    let here : slice_get p.works.items c.args.thread ≡ Some work =
    got_there p.works.items c.deref.result.now c.args.thread work c.deref.ensures.value
    (sym c.get.ensures.lookup.0 ∙ ap is_some c.in-Some.is) c.in-Some.ensures.lookup.1 in
    acting_turn (table_of c.args.transitions.now) new c.args.thread p.store p.works.items work c.next.ensures.grows
    c.requires.there here c.requires.started c.in-Acts.step
    (subst (λ (m : Move). IsMove new c.args.thread p.store work m) c.in-Acts.is c.in_ok-next.ensures.made)
