-- Why `lead` in src/space.rt keeps its contract and what it calls with.
use Rattle.std.proofs.Common.{subst}
use Rattle.ls_checked.specs.PlainProgram.{plain_program}
use Rattle.ls_search_laws.specs.Configuration.{stride}
use Rattle.ls_transitions.specs.declared.moves.Move.{Move}
use Rattle.ls_transitions.specs.Seen.{table_of}
use Rattle.ls_transitions.specs.Tables.{Table}
use Rattle.ls_transitions.proofs.Growing.{grows_not}
use Rattle.ls_search.specs.Places.{configuration_of}
use Rattle.ls_search.specs.Strides.{ActsBy, IsStrideBy}
use Rattle.ls_search.proofs.FollowingOn.{acting_here, acts_here, reaches_here, started_here}
use Rattle.ls_search.proofs.Strides.{there_still}
use Rattle.ls_search.proofs.Telling.{some_map}
use Rattle.ls_search.proofs.space.lead.Goals as goal

pub follow-requires-clause-there : goal.follow-requires-clause-there
follow-requires-clause-there g c =
    there_still (table_of c.args.tables.now.transitions) (table_of c.move_from.new.transitions)
    c.args.node.now.place.store c.args.node.now.place.works.items c.move_from.ensures.grows c.requires.node.numbers

pub follow-requires-clause-started : goal.follow-requires-clause-started
follow-requires-clause-started g c =
    started_here _ _ (table_of c.args.tables.now.transitions) _ c.args.node.now.place c.requires.file_is c.requires.node
    (table_of c.args.tables.now.transitions) (grows_not (table_of c.args.tables.now.transitions))
    (table_of c.move_from.new.transitions) c.args.thread c.move_from.ensures.grows
    (c.in_ok-move_from.ensures.started c.in-Acts.step c.in-Acts.is)

pub follow-requires-clause-acts : goal.follow-requires-clause-acts
follow-requires-clause-acts g c =
    let t : Table = table_of c.args.tables.now.transitions in
    let p = c.args.node.now.place in
    acts_here _ _ t _ p c.requires.file_is c.requires.node t (grows_not t) (table_of c.move_from.new.transitions)
    c.args.thread c.in-Acts.step c.move_from.ensures.grows
    (subst (λ (m : Move). IsStrideBy (table_of c.move_from.new.transitions) (configuration_of t p) p.works.items
    c.args.thread m (stride t.file (configuration_of t p) c.args.thread)) c.in-Acts.is c.in_ok-move_from.ensures.stride)

pub returns-in_ok-led-in-Acts-clause-leads : goal.returns-in_ok-led-in-Acts-clause-leads
returns-in_ok-led-in-Acts-clause-leads g c =
    let t : Table = table_of c.args.tables.now.transitions in
    let t'' : Table = table_of c.move_from.new.transitions in
    let p = c.args.node.now.place in
    let thread = c.args.thread in
    let step = c.in-Acts.step in
    let acts : ActsBy t'' p.works.items thread step (stride t.file (configuration_of t p) thread) =
    subst (λ (m : Move). IsStrideBy t'' (configuration_of t p) p.works.items c.args.thread m
    (stride t.file (configuration_of t p) c.args.thread)) c.in-Acts.is c.in_ok-move_from.ensures.stride in
    some_map _ _ c.in_ok-led-in-Acts.led
    (λ s h. record {
      acts = acting_here _ _ t _ p c.requires.file_is c.requires.node t (grows_not t) t'' thread step acts;
      reaches = reaches_here _ _ t _ p c.requires.file_is c.requires.node t'' c.move_from.ensures.grows
          (g.O.Observer.first c.args.space.now.ground.now.observer.now)
          (g.O.Observer.next c.args.space.now.ground.now.observer.now)
          (plain_program c.args.space.now.ground.now.program.now) c.args.thread s.mark _ h;
    }) c.in_ok-led-in-Acts.ensures.reaches
