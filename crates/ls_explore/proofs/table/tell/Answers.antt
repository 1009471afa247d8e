-- Why `tell` in src/table.rt keeps its clause `told`.

use Rattle.ls_explore.specs.Searches.{paths_of}
use Rattle.ls_explore.specs.Walks.{root_of}
use Rattle.ls_explore.proofs.Listing.{listed_sorted}
use Rattle.ls_explore.proofs.table.tell.Goals as goal

pub returns-clause-told : goal.returns-clause-told
returns-clause-told c =
    listed_sorted c.args.ground.now.most (root_of c.args.walker.now c.args.ground.now.setup.now)
    (paths_of c.args.found.now.paths.items) c.args.found.now.seen.items c.in_ok-rows.rows.items c.in_order.result.items
    c.in_order.ensures.same c.in_ok-rows.ensures
