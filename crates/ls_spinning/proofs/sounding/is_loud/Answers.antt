-- Why `is_loud` in src/sounding.rt keeps its contract and what it calls with.
use Rattle.std.proofs.Common.{[], sym, ap, ◌∙◌, subst}
use Rattle.ls_checked.specs.CheckedTree.{File}
use Rattle.ls_meaning.specs.Runs.{has_ended}
use Rattle.ls_search_laws.specs.Configuration.{Configuration, stride}
use Rattle.ls_search_laws.specs.Stepping.{events_of}
use Rattle.ls_transitions.specs.Seen.{table_of}
use Rattle.ls_transitions.specs.Tables.{Table}
use Rattle.ls_search.specs.Places.{configuration_of}
use Rattle.ls_search.proofs.Strides.{stays, there_still}
use Rattle.ls_spinning.specs.Moves.{AreAny, events_by}
use Rattle.ls_spinning.proofs.Seeing.{events_same, some_same}
use Rattle.ls_spinning.proofs.sounding.is_loud.Goals as goal

pub step_from-requires-clause-there : goal.step_from-requires-clause-there
step_from-requires-clause-there c =
    there_still (table_of c.args.transitions.now) (table_of c.has_setup_ended.new.transitions) c.args.place.now.store
    c.args.place.now.works.items c.has_setup_ended.ensures.grows c.requires

pub step_from-requires-clause-ended : goal.step_from-requires-clause-ended
step_from-requires-clause-ended c =
    c.in_ok-ended.ensures.ended
    ∙ ap (λ (k : Configuration). has_ended (k.continues 0 []))
    (sym (stays (table_of c.args.transitions.now) (table_of c.has_setup_ended.new.transitions) c.args.place.now.store
    c.args.place.now.works.items c.has_setup_ended.ensures.grows c.requires))

pub returns-clause-loud : goal.returns-clause-loud
returns-clause-loud c =
    let t : Table = table_of c.args.transitions.now in
    let t' : Table = table_of c.has_setup_ended.new.transitions in
    let t'' : Table = table_of c.step_from.new.transitions in
    let p = c.args.place.now in
    let u = c.args.thread in
    let m = c.in_ok-made.made in
    let k : Configuration = configuration_of t' p in
    let b = c.has_event.result in
    subst (λ (f : File). AreAny b (events_of u (stride f (configuration_of t p) u).did))
    c.has_setup_ended.ensures.grows.file
    (subst (λ (z : Configuration). AreAny b (events_of u (stride t'.file z u).did))
    (stays t t' p.store p.works.items c.has_setup_ended.ensures.grows c.requires)
    (some_same b (events_by u m) (events_of u (stride t'.file k u).did)
    (events_same t'' k p.works.items u m (stride t'.file k u) c.in_ok-made.ensures.stride) c.has_event.ensures))
