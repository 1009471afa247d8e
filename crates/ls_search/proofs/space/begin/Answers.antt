-- Why `begin` in src/space.rt keeps its contract.
use Rattle.std.proofs.Common.{List, map, refl, ap}
use Rattle.std.proofs.lemmas.Option.{get_or_from_slice_get}
use Rattle.ls_transitions.specs.Seen.{table_of}
use Rattle.ls_transitions.proofs.Keeping.{below}
use Rattle.ls_search.specs.Places.{configuration_at}
use Rattle.ls_search.proofs.space.begin.Goals as goal

pub returns-clause-placed : goal.returns-clause-placed
returns-clause-placed g c =
    let states : List g.O.Observer.State =
    map (g.O.Observer.stands c.args.ground.now.observer.now) c.keep_noted.new.pool.values.items in
    record {
      file_is = c.requires.file;
      constants = c.if-not-file_has_constants.ensures refl;
      node = record {
        numbers = c.requires.there;
        noted_there = below states c.in_ok-noted.noted _ c.in_ok-noted.ensures.number;
        width = c.requires.width;
      };
      weight = c.in_ok-weight.ensures;
    }

pub returns-clause-stands : goal.returns-clause-stands
returns-clause-stands g c =
    let states : List g.O.Observer.State =
    map (g.O.Observer.stands c.args.ground.now.observer.now) c.keep_noted.new.pool.values.items in
    ap (λ (m : g.O.Observer.State). record {
      configuration = configuration_at (table_of c.args.transitions) c.args.root.store c.args.root.works.items;
      noted = m;
    })
    (get_or_from_slice_get states c.in_ok-noted.noted _ (g.O.Observer.first c.args.ground.now.observer.now)
    c.in_ok-noted.ensures.number)
