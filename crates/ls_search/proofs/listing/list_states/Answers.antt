-- Why `list_states` in src/listing.rt keeps its clause `root` and what `close` requires.

use Rattle.std.proofs.Common.{List, ap}
use Rattle.std.specs.Prelude.{slice_get}
use Rattle.ls_checked.specs.Plain.{plain_file}
use Rattle.ls_search_laws.specs.Noticing.{Noticed}
use Rattle.ls_transitions.specs.Seen.{table_of}
use Rattle.ls_search.specs.Answers.{root_of}
use Rattle.ls_search.specs.Listed.{paths_of}
use Rattle.ls_search.specs.SeenSearch.{pairs_of}
use Rattle.ls_search.proofs.Apart.{distinct_first}
use Rattle.ls_search.proofs.Stepping.{steps_first}
use Rattle.ls_search.proofs.Tracks.{paths_first}
use Rattle.ls_search.proofs.listing.list_states.Goals as goal

pub close-requires-clause-steps : goal.close-requires-clause-steps
close-requires-clause-steps g c =
    steps_first (plain_file c.args.ground.now.file.now)
    (pairs_of (g.O.Observer.first c.args.ground.now.observer.now) (g.O.Observer.stands c.args.ground.now.observer.now)
    c.in_ok-search.search) c.in_ok-search.search.found.nodes.items c.in_ok-search.ensures.one

pub close-requires-clause-distinct : goal.close-requires-clause-distinct
close-requires-clause-distinct g c =
    distinct_first (paths_of c.in_ok-search.search.found.nodes.items)
    (paths_first c.in_ok-search.search.found.nodes.items c.in_ok-search.ensures.one)

pub returns-clause-root : goal.returns-clause-root
returns-clause-root g c =
    let stands = g.O.Observer.stands c.args.ground.now.observer.now in
    let root : Noticed g.O.Observer.State = root_of stands (table_of c.args.transitions) c.args.root in
    c.in_ok-complete.ensures.keeps 0 root
    (ap (λ (l : List (Noticed g.O.Observer.State)). slice_get l 0) c.in_ok-search.ensures.root)
