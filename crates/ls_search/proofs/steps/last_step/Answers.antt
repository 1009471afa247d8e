-- Why `last_step` in src/steps.rt keeps its clauses `none` and `some`.

use Rattle.std.proofs.Common.{length, refl}
use Rattle.std.proofs.lemmas.Option.{slice_get_read}
use Rattle.ls_search.proofs.Tracks.{path_none, path_on}
use Rattle.ls_search.proofs.steps.last_step.Goals as goal

pub returns-then-node-at-clause-none : goal.returns-then-node-at-clause-none
returns-then-node-at-clause-none c =
    path_none c.args.nodes.now c.args.at c.index-nodes-at.result
    (slice_get_read c.args.nodes.now (length c.args.nodes.now) c.args.at c.index-nodes-at.result refl c.requires
    c.index-nodes-at.is) c.if-node-at.true

pub returns-clause-some : goal.returns-clause-some
returns-clause-some c =
    path_on c.args.nodes.now c.args.at c.index-nodes-at.result
    (slice_get_read c.args.nodes.now (length c.args.nodes.now) c.args.at c.index-nodes-at.result refl c.requires
    c.index-nodes-at.is) c.if-node-at.false
