-- Why `is_end` of `Space for RaceSpace` in src/space.rt keeps its clause `grows`.
use Rattle.std.proofs.Common.{map}
use Rattle.ls_transitions.specs.Seen.{table_of}
use Rattle.ls_search.proofs.FollowingOn.{placed_still}
use Rattle.ls_spinning.specs.Mute.{no_note}
use Rattle.ls_races.proofs.space.RaceSpaceSpace.is_end.Goals as goal

pub returns-clause-grows : goal.returns-clause-grows
returns-clause-grows c = λ n is.
    placed_still _ _ tt (table_of c.args.tables.now.transitions) (table_of c.meet_at.new.transitions)
    (map no_note c.args.tables.now.pool.values.items) (map no_note c.args.tables.now.pool.values.items)
    c.meet_at.ensures.grows (λ i x e. e) n is
