-- Why `move_from` in src/space.rt keeps its contract and what it calls with.
use Rattle.std.proofs.Common.{[], sym, ap, ◌∙◌, subst}
use Rattle.ls_checked.specs.CheckedTree.{File}
use Rattle.ls_meaning.specs.Runs.{has_ended}
use Rattle.ls_search_laws.specs.Configuration.{Configuration, stride}
use Rattle.ls_transitions.specs.Seen.{table_of}
use Rattle.ls_transitions.specs.Tables.{Table}
use Rattle.ls_search.specs.Places.{configuration_of}
use Rattle.ls_search.specs.Strides.{IsStrideBy}
use Rattle.ls_search.proofs.Strides.{stays, there_still}
use Rattle.ls_progress.proofs.space.move_from.Goals as goal

pub step_from-requires-clause-there : goal.step_from-requires-clause-there
step_from-requires-clause-there c =
    there_still (table_of c.args.transitions.now) (table_of c.has_setup_ended.new.transitions) c.args.place.now.store
    c.args.place.now.works.items c.has_setup_ended.ensures.grows c.requires.there

pub step_from-requires-clause-ended : goal.step_from-requires-clause-ended
step_from-requires-clause-ended c =
    c.in_ok-ended.ensures.ended
    ∙ ap (λ (k : Configuration). has_ended (k.continues 0 []))
    (sym (stays (table_of c.args.transitions.now) (table_of c.has_setup_ended.new.transitions) c.args.place.now.store
    c.args.place.now.works.items c.has_setup_ended.ensures.grows c.requires.there))

pub returns-clause-stride : goal.returns-clause-stride
returns-clause-stride c =
    let t : Table = table_of c.args.transitions.now in
    let t' : Table = table_of c.has_setup_ended.new.transitions in
    let t'' : Table = table_of c.step_from.new.transitions in
    let p = c.args.place.now in
    let m = c.in_ok-made.made in
    let same = stays t t' p.store p.works.items c.has_setup_ended.ensures.grows c.requires.there in
    subst (λ (f : File). IsStrideBy t'' (configuration_of t p) p.works.items c.args.thread m
    (stride f (configuration_of t p) c.args.thread)) c.has_setup_ended.ensures.grows.file
    (subst (λ (k : Configuration). IsStrideBy t'' k p.works.items c.args.thread m (stride t'.file k c.args.thread))
    same c.in_ok-made.ensures.stride)
