-- Why `next_access` in src/nodes.rt keeps its clause `next`.
use Rattle.std.proofs.Common.{◌≡◌, ◌∙◌, map, sym, ap}
use Rattle.ls_meaning.specs.Store.{Store}
use Rattle.ls_search_laws.specs.Configuration.{Configuration, stride}
use Rattle.ls_source_store.specs.SeenStore.{store_of}
use Rattle.ls_source_store.specs.SeenThing.{thing_of}
use Rattle.ls_transitions.specs.Seen.{table_of}
use Rattle.ls_transitions.specs.Tables.{Table}
use Rattle.ls_search.specs.Places.{configuration_of}
use Rattle.ls_races.specs.Volatile.{volatile_by}
use Rattle.ls_races.proofs.Nexts.{move_access, store_kept}
use Rattle.ls_races.proofs.nodes.next_access.Goals as goal

pub returns-clause-next : goal.returns-clause-next
returns-clause-next c =
    let t : Table = table_of c.args.transitions.now in
    let t' : Table = table_of c.step_from.new.transitions in
    let p = c.args.place.now in
    let k : Configuration = configuration_of t p in
    let volatile = volatile_by (map (λ v. v.items) c.args.classes.now) in
    let kept : k.store ≡ store_of c.store_at.result.now =
    store_kept t t' p.store (store_of c.store_at.result.now) c.in_ok-made.ensures.grows c.requires.there.store_there
    c.store_at.ensures in
    c.access_in.ensures k.store
    (ap (λ (s : Store). s.things) kept ∙ ap (map thing_of) (sym c.as_slice-things.ensures.value))
    ∙ sym (move_access volatile t' k p.works.items c.args.thread c.in_ok-made.made (stride t.file k c.args.thread)
    k.store
    c.in_ok-made.ensures.stride)
