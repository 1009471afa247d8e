-- Why `follow` in src/space.rt keeps its contract.
use Rattle.std.proofs.Common.{◌<◌, ℕ, List, length, map, refl, sym, subst, arith}
use Rattle.std.proofs.lemmas.List.{length-map}
use Rattle.ls_search_laws.specs.Noticing.{Noticed, noticed_after}
use Rattle.ls_transitions.specs.Seen.{table_of}
use Rattle.ls_transitions.specs.Tables.{Table}
use Rattle.ls_transitions.proofs.Growing.{grows_not}
use Rattle.ls_search.specs.Searched.{Reaches, noticed_at}
use Rattle.ls_search.proofs.Pairs.{pair_stays}
use Rattle.ls_search.proofs.space.follow.Goals as goal

pub returns-in_err-mark-clause-keeps : goal.returns-in_err-mark-clause-keeps
returns-in_err-mark-clause-keeps g c = λ n x e. c.go_on.ensures.keeps n x (c.is_lost_after.ensures.keeps n x e)

pub returns-in_err-weight-clause-keeps : goal.returns-in_err-weight-clause-keeps
returns-in_err-weight-clause-keeps g c = λ n x e. c.go_on.ensures.keeps n x (c.is_lost_after.ensures.keeps n x e)

pub returns-clause-keeps : goal.returns-clause-keeps
returns-clause-keeps g c = λ n x e. c.go_on.ensures.keeps n x (c.is_lost_after.ensures.keeps n x e)

pub returns-clause-reaches : goal.returns-clause-reaches
returns-clause-reaches g c =
    let first = g.O.Observer.first c.args.space.now.ground.now.observer.now in
    let next = g.O.Observer.next c.args.space.now.ground.now.observer.now in
    let stands = g.O.Observer.stands c.args.space.now.ground.now.observer.now in
    let t : Table = table_of c.args.tables.now.transitions in
    let p = c.args.place.now in
    let u = c.args.thread in
    let states : List g.O.Observer.State = map stands c.args.tables.now.pool.values.items in
    let states' : List g.O.Observer.State = map stands c.is_lost_after.new.pool.values.items in
    let after = c.in_ok-after.after in
    let q : Noticed g.O.Observer.State =
    noticed_at first (table_of c.go_on.new.transitions) (map stands c.go_on.new.pool.values.items) after.place in
    let noted : p.noted < length states =
    omega (arith, c.requires.noted, length-map c.args.tables.now.pool.values.items stands) in
    subst (λ (k : ℕ). Reaches t.file (noticed_after first next t.file t.program (noticed_at first t states p) u) q u k)
    (sym c.in_ok-mark.ensures)
    (subst (λ (m : Noticed g.O.Observer.State). Reaches t.file (noticed_after first next t.file t.program m u) q u
    after.steps)
    (pair_stays first t t states states' (grows_not t) c.is_lost_after.ensures.keeps (length p.works.items) p
    (record { numbers = c.requires.there; noted_there = noted; width = refl })) c.in_ok-after.ensures.reaches)
