-- Why `start` in src/roots.rt keeps its clauses `sound` and `root`.

use Rattle.std.proofs.Common.{List, map, refl, sym, ap, ◌∙◌, subst}
use Rattle.ls_checked.specs.Plain.{plain_file}
use Rattle.ls_checked.specs.PlainProgram.{plain_program}
use Rattle.ls_transitions.specs.Tables.{Table}
use Rattle.ls_transitions.specs.Seen.{table_of}
use Rattle.ls_transitions.proofs.Keeping.{below}
use Rattle.ls_search.specs.declared.places.Node.{Node}
use Rattle.ls_search.specs.Searched.{IsSound, pairs_at}
use Rattle.ls_search.proofs.Answering.{root_pair, sound_first}
use Rattle.ls_search.proofs.roots.start.Goals as goal

pub returns-clause-sound : goal.returns-clause-sound
returns-clause-sound g c =
    let first = g.O.Observer.first c.args.ground.now.observer.now in
    let next = g.O.Observer.next c.args.ground.now.observer.now in
    let states : List g.O.Observer.State =
    map (g.O.Observer.stands c.args.ground.now.observer.now) c.keep_noted.new.pool.values.items in
    let t : Table = table_of c.args.transitions in
    let node : Node = record {
      place = record { store = c.args.root.store; works = c.args.root.works; noted = c.in_ok-noted.noted };
      before = 0;
      thread = 0;
      steps = 0;
    } in
    subst (λ (nodes : List Node). IsSound first next (plain_file c.args.ground.now.file.now)
    (plain_program c.args.ground.now.program.now) c.args.ground.now.threads t states nodes) (sym c.in_ok-found.ensures)
    (sound_first first next (plain_file c.args.ground.now.file.now) (plain_program c.args.ground.now.program.now)
    c.args.ground.now.threads t states node c.requires.file c.requires.constants c.requires.hides refl (record {
      numbers = c.requires.numbers;
      noted_there = below states c.in_ok-noted.noted
          (g.O.Observer.stands c.args.ground.now.observer.now c.args.root.noted) c.in_ok-noted.ensures.number;
      width = c.requires.width;
    }))

pub returns-clause-root : goal.returns-clause-root
returns-clause-root g c =
    let first = g.O.Observer.first c.args.ground.now.observer.now in
    let states : List g.O.Observer.State =
    map (g.O.Observer.stands c.args.ground.now.observer.now) c.keep_noted.new.pool.values.items in
    let t : Table = table_of c.args.transitions in
    let node : Node = record {
      place = record { store = c.args.root.store; works = c.args.root.works; noted = c.in_ok-noted.noted };
      before = 0;
      thread = 0;
      steps = 0;
    } in
    ap (pairs_at first t states) c.in_ok-found.ensures
    ∙ root_pair first t states node (g.O.Observer.stands c.args.ground.now.observer.now c.args.root.noted)
    c.in_ok-noted.ensures.number
