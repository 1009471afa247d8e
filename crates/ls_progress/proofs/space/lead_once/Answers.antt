-- Why `lead_once` in src/space.rt keeps its contract and what it calls with.
use Rattle.std.proofs.Common.{sym, ◌∙◌, subst}
use Rattle.ls_meaning.specs.Constants.{FileHasConstants}
use Rattle.ls_search_laws.specs.Configuration.{stride}
use Rattle.ls_transitions.specs.declared.moves.Move.{Move}
use Rattle.ls_transitions.specs.Seen.{table_of}
use Rattle.ls_transitions.specs.Tables.{Table}
use Rattle.ls_transitions.proofs.Growing.{grows_on}
use Rattle.ls_search.specs.Places.{configuration_of}
use Rattle.ls_search.specs.Strides.{IsStrideBy}
use Rattle.ls_search.proofs.Strides.{there_still}
use Rattle.ls_progress.proofs.Leading.{acts_by, acts_still, rests_by, stayed_placed, waits_by}
use Rattle.ls_progress.proofs.space.lead_once.Goals as goal

pub follow-requires-clause-there : goal.follow-requires-clause-there
follow-requires-clause-there c =
    there_still (table_of c.args.tables.now.transitions) (table_of c.move_from.new.transitions) c.args.place.now.store
    c.args.place.now.works.items c.move_from.ensures.grows c.requires.numbers

pub follow-requires-clause-constants : goal.follow-requires-clause-constants
follow-requires-clause-constants c =
    subst FileHasConstants (sym (c.move_from.ensures.grows.file ∙ c.requires.file_is)) c.requires.constants

pub follow-requires-clause-acts : goal.follow-requires-clause-acts
follow-requires-clause-acts c =
    let t : Table = table_of c.args.tables.now.transitions in
    let t' : Table = table_of c.move_from.new.transitions in
    let p = c.args.place.now in
    acts_still t t' p c.args.thread c.in-Acts.step c.move_from.ensures.grows c.requires.numbers
    (subst (λ (m : Move). IsStrideBy t' (configuration_of t p) p.works.items c.args.thread m
    (stride t.file (configuration_of t p) c.args.thread)) c.in-Acts.is c.in_ok-move_from.ensures.stride)

pub returns-in-Ended-clause-rests : goal.returns-in-Ended-clause-rests
returns-in-Ended-clause-rests c =
    let t : Table = table_of c.args.tables.now.transitions in
    let p = c.args.place.now in
    rests_by _ t p c.args.thread c.requires.file_is
    (subst (λ (m : Move). IsStrideBy (table_of c.move_from.new.transitions) (configuration_of t p) p.works.items
    c.args.thread m (stride t.file (configuration_of t p) c.args.thread)) c.in-Ended.is
    c.in_ok-move_from.ensures.stride)

pub returns-in-Trapped-clause-rests : goal.returns-in-Trapped-clause-rests
returns-in-Trapped-clause-rests c =
    let t : Table = table_of c.args.tables.now.transitions in
    let p = c.args.place.now in
    rests_by _ t p c.args.thread c.requires.file_is
    (subst (λ (m : Move). IsStrideBy (table_of c.move_from.new.transitions) (configuration_of t p) p.works.items
    c.args.thread m (stride t.file (configuration_of t p) c.args.thread)) c.in-Trapped.is
    c.in_ok-move_from.ensures.stride)

pub returns-in_ok-led-in-Waits-clause-known : goal.returns-in_ok-led-in-Waits-clause-known
returns-in_ok-led-in-Waits-clause-known c =
    stayed_placed _ _ (table_of c.args.tables.now.transitions) (table_of c.move_from.new.transitions) c.args.place.now
    c.in_ok-led-in-Waits.led.node.place c.move_from.ensures.grows c.requires c.in_ok-led-in-Waits.ensures.store
    c.in_ok-led-in-Waits.ensures.works

pub returns-in_ok-led-in-Waits-clause-leads : goal.returns-in_ok-led-in-Waits-clause-leads
returns-in_ok-led-in-Waits-clause-leads c =
    let t : Table = table_of c.args.tables.now.transitions in
    let p = c.args.place.now in
    waits_by _ t (table_of c.move_from.new.transitions) p c.in_ok-led-in-Waits.led.node.place c.args.thread
    c.in_ok-led-in-Waits.led.mark
    c.requires.file_is c.move_from.ensures.grows c.requires.numbers
    (subst (λ (m : Move). IsStrideBy (table_of c.move_from.new.transitions) (configuration_of t p) p.works.items
    c.args.thread m (stride t.file (configuration_of t p) c.args.thread)) c.in-Waits.is
    c.in_ok-move_from.ensures.stride) c.in_ok-led-in-Waits.ensures.mark c.in_ok-led-in-Waits.ensures.store
    c.in_ok-led-in-Waits.ensures.works

pub returns-in_ok-led-in-Acts-clause-known : goal.returns-in_ok-led-in-Acts-clause-known
returns-in_ok-led-in-Acts-clause-known c = record {
  file_is = c.follow.ensures.grows.file ∙ c.move_from.ensures.grows.file ∙ c.requires.file_is;
  constants = c.requires.constants;
  numbers = c.in_ok-led-in-Acts.ensures.there;
  width = c.in_ok-led-in-Acts.ensures.width ∙ c.requires.width;
}

pub returns-in_ok-led-in-Acts-clause-leads : goal.returns-in_ok-led-in-Acts-clause-leads
returns-in_ok-led-in-Acts-clause-leads c =
    let t : Table = table_of c.args.tables.now.transitions in
    let t' : Table = table_of c.move_from.new.transitions in
    let p = c.args.place.now in
    acts_by _ t t' p c.in_ok-led-in-Acts.led.node.place c.args.thread c.in_ok-led-in-Acts.led.mark c.in-Acts.step
    (table_of c.follow.new.tables.transitions) c.requires.file_is c.move_from.ensures.grows c.requires.numbers
    (acts_still t t' p c.args.thread c.in-Acts.step c.move_from.ensures.grows c.requires.numbers
    (subst (λ (m : Move). IsStrideBy t' (configuration_of t p) p.works.items c.args.thread m
    (stride t.file (configuration_of t p) c.args.thread)) c.in-Acts.is c.in_ok-move_from.ensures.stride))
    c.in_ok-led-in-Acts.ensures.mark c.in_ok-led-in-Acts.ensures.other

pub returns-in_ok-led-in-Acts-clause-grows : goal.returns-in_ok-led-in-Acts-clause-grows
returns-in_ok-led-in-Acts-clause-grows c =
    grows_on (table_of c.args.tables.now.transitions) (table_of c.move_from.new.transitions)
    (table_of c.follow.new.tables.transitions) c.move_from.ensures.grows c.follow.ensures.grows
