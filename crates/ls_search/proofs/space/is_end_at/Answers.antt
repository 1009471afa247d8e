-- Why `is_end_at` in src/space.rt keeps its contract.
use Rattle.std.proofs.Common.{sym, ◌∙◌}
use Rattle.ls_transitions.specs.Seen.{table_of}
use Rattle.ls_search.proofs.FollowingOn.{no_end}
use Rattle.ls_search.proofs.space.is_end_at.Goals as goal

pub returns-in-Bad-clause-none : goal.returns-in-Bad-clause-none
returns-in-Bad-clause-none g c = λ off.
    no_end (g.O.Observer.first c.args.space.now.ground.now.observer.now)
    (g.O.Observer.stands c.args.space.now.ground.now.observer.now)
    (g.O.Observer.bad c.args.space.now.ground.now.observer.now) c.args.space.now.wanted _
    (table_of c.args.tables.now.transitions) c.args.tables.now.pool.values.items c.args.node.now.place
    c.requires.node.noted_there (sym c.is_bad_at.ensures ∙ off)

pub returns-then-not-is_bad_at-clause-none : goal.returns-then-not-is_bad_at-clause-none
returns-then-not-is_bad_at-clause-none g c = λ off.
    no_end (g.O.Observer.first c.args.space.now.ground.now.observer.now)
    (g.O.Observer.stands c.args.space.now.ground.now.observer.now)
    (g.O.Observer.bad c.args.space.now.ground.now.observer.now) c.args.space.now.wanted _
    (table_of c.args.tables.now.transitions) c.args.tables.now.pool.values.items c.args.node.now.place
    c.requires.node.noted_there (sym c.is_bad_at-in-Stuck.ensures ∙ c.if-not-is_bad_at.true)
