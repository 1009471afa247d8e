-- Why `meet_at` in src/space.rt keeps its clause `none`.
use Rattle.std.proofs.Common.{map, subst}
use Rattle.std.specs.Prelude.{IfNone}
use Rattle.ls_search_laws.specs.Configuration.{stride}
use Rattle.ls_transitions.specs.Seen.{table_of}
use Rattle.ls_transitions.specs.Tables.{Table}
use Rattle.ls_search.specs.Places.{configuration_of}
use Rattle.ls_races.specs.Met.{NoneMet}
use Rattle.ls_races.specs.Volatile.{volatile_by}
use Rattle.ls_races.proofs.Nexts.{none_meets, past_idle}
use Rattle.ls_races.proofs.space.meet_at.Goals as goal

pub returns-in-None-clause-none : goal.returns-in-None-clause-none
returns-in-None-clause-none c = λ off m.
    let t : Table = table_of c.args.transitions.now in
    let p = c.args.place.now in
    let accesses = c.in_ok-accesses.accesses.items in
    let none = subst (λ l. NoneMet l c.args.told.now) c.deref.ensures.value
    (subst (λ o. IfNone o (NoneMet c.deref.result.now c.args.told.now)) c.in-None.is c.meeting_in.ensures.none) in
    none_meets (volatile_by (map (λ v. v.items) c.args.classes.now)) (configuration_of t p).store
    (λ u. (stride t.file (configuration_of t p) u).did) c.args.threads accesses c.in_ok-accesses.ensures.next
    (past_idle t p c.args.threads c.requires.width) c.args.told.now none m.on m.untold m.meets
