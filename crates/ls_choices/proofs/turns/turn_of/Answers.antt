-- Why `turn_of` in src/turns.rt keeps its contract and what it calls with.

use Rattle.std.proofs.Common.{[], ◌∙◌, ap, sym}
use Rattle.std.proofs.lemmas.Result.{IfOk-weaker}
use Rattle.ls_meaning.specs.Runs.{has_ended}
use Rattle.ls_search_laws.specs.Configuration.{Configuration}
use Rattle.ls_search.specs.Places.{configuration_of}
use Rattle.ls_search.proofs.Strides.{stays, there_still}
use Rattle.ls_transitions.specs.Seen.{table_of}
use Rattle.ls_transitions.specs.Tables.{Table}
use Rattle.ls_choices.specs.Points.{IsTurn}
use Rattle.ls_choices.proofs.Turning.{started_then, turn_between}
use Rattle.ls_choices.proofs.turns.turn_of.Goals as goal

pub has_setup_trapped-requires : goal.has_setup_trapped-requires
has_setup_trapped-requires c =
    let p = c.args.place.now in
    record {
      there = there_still (table_of c.args.transitions.now) (table_of c.has_setup_ended.new.transitions) p.store
          p.works.items c.has_setup_ended.ensures.grows c.requires.there;
    }

pub turn_started-requires-2-clause-there : goal.turn_started-requires-2-clause-there
turn_started-requires-2-clause-there c =
    let p = c.args.place.now in
    there_still (table_of c.args.transitions.now) (table_of c.has_setup_ended.new.transitions) p.store p.works.items
    c.has_setup_ended.ensures.grows c.requires.there

pub turn_started-requires-2-clause-started : goal.turn_started-requires-2-clause-started
turn_started-requires-2-clause-started c =
    let p = c.args.place.now in
    let t0 : Table = table_of c.args.transitions.now in
    let t1 : Table = table_of c.has_setup_ended.new.transitions in
    let same = stays t0 t1 p.store p.works.items c.has_setup_ended.ensures.grows c.requires.there in
    started_then (configuration_of t1 p) c.args.thread (ap (λ (k : Configuration). has_ended (k.continues 0 [])) same
    ∙ sym c.in_ok-has_setup_ended.ensures.ended ∙ c.if-not-branch.false)

pub returns-clause-turn : goal.returns-clause-turn
returns-clause-turn c =
    let p = c.args.place.now in
    let t0 : Table = table_of c.args.transitions.now in
    let t1 : Table = table_of c.has_setup_ended.new.transitions in
    let t2 : Table = table_of c.turn_started-2.new.transitions in
    IfOk-weaker c.turn_started-2.result
    (λ o. IsTurn t1.file t2 (configuration_of t1 p) p.works.items c.args.thread o)
    (λ o. IsTurn t0.file t2 (configuration_of t0 p) p.works.items c.args.thread o)
    (λ o. turn_between t0 t1 t2 p.store p.works.items c.args.thread o c.has_setup_ended.ensures.grows c.requires.there)
    c.turn_started-2.ensures.turn
