-- Why `renumber` in src/searching.rt keeps its clauses `other` and `there`.

use Rattle.std.proofs.Common.{ℕ, List, Option, subst}
use Rattle.std.specs.Prelude.{IfSome}
use Rattle.ls_transitions.specs.Tables.{Table}
use Rattle.ls_transitions.specs.Seen.{table_of}
use Rattle.ls_renaming.specs.Renumbered.{IsRenumbered}
use Rattle.ls_renaming.specs.declared.renumbering.Renumbered.{Renumbered}
use Rattle.ls_search.proofs.Others.{other_renumbered, other_stays, there_renumbered}
use Rattle.ls_search.proofs.Strides.{there_still}
use Rattle.ls_search.proofs.searching.renumber.Goals as goal

pub returns-in-None-clause-other : goal.returns-in-None-clause-other
returns-in-None-clause-other c =
    other_stays (table_of c.args.transitions.now) (table_of c.renumber.new.transitions) c.args.place.store
    c.args.place.works.items c.requires.there c.renumber.ensures.grows

pub returns-in-None-clause-there : goal.returns-in-None-clause-there
returns-in-None-clause-there c =
    there_still (table_of c.args.transitions.now) (table_of c.renumber.new.transitions) c.args.place.store
    c.args.place.works.items c.renumber.ensures.grows c.requires.there

pub returns-in-Some-clause-other : goal.returns-in-Some-clause-other
returns-in-Some-clause-other c =
    let t' : Table = table_of c.renumber.new.transitions in
    let is : IsRenumbered t' c.args.place.store c.args.place.works.items c.in-Some.numbered.store
    c.in-Some.numbered.works.items =
    subst (λ (ws : List ℕ). IsRenumbered t' c.args.place.store ws c.in-Some.numbered.store
    c.in-Some.numbered.works.items) c.deref.ensures.value
    (subst (λ (o : Option Renumbered). IfSome o (λ n. IsRenumbered t' c.args.place.store c.deref.result.now n.store
    n.works.items)) c.in-Some.is c.in_ok-renumber.ensures.there) in
    other_renumbered (table_of c.args.transitions.now) t' c.args.place.store c.args.place.works.items c.requires.there
    c.renumber.ensures.grows c.in-Some.numbered.store c.in-Some.numbered.works.items c.requires.constants is

pub returns-in-Some-clause-there : goal.returns-in-Some-clause-there
returns-in-Some-clause-there c =
    let t' : Table = table_of c.renumber.new.transitions in
    there_renumbered t' c.args.place.store c.deref.result.now c.in-Some.numbered.store c.in-Some.numbered.works.items
    (subst (λ (o : Option Renumbered). IfSome o (λ n. IsRenumbered t' c.args.place.store c.deref.result.now n.store
    n.works.items)) c.in-Some.is c.in_ok-renumber.ensures.there)
