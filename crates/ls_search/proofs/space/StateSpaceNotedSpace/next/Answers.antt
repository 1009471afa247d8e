-- Why `next` of `Space for StateSpace` in src/space.rt keeps its clause `grows`.
use Rattle.std.proofs.Common.{map}
use Rattle.ls_transitions.specs.Seen.{table_of}
use Rattle.ls_search.proofs.FollowingOn.{placed_still}
use Rattle.ls_search.proofs.space.StateSpaceNotedSpace.next.Goals as goal

pub returns-clause-grows : goal.returns-clause-grows
returns-clause-grows g c = λ n is.
    let stands = g.O.Observer.stands c.args.self.now.ground.now.observer.now in
    placed_still _ _ (g.O.Observer.first c.args.self.now.ground.now.observer.now)
    (table_of c.args.tables.now.transitions) (table_of c.lead.new.tables.transitions)
    (map stands c.args.tables.now.pool.values.items) (map stands c.lead.new.tables.pool.values.items)
    c.lead.ensures.grows c.lead.ensures.keeps n is
