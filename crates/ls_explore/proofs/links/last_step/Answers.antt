-- Why `last_step` in src/links.rt keeps its clauses `none` and `some`.

use Rattle.std.proofs.Common.{get_or}
use Rattle.std.proofs.lemmas.Option.{slice_get-get_or}
use Rattle.ls_explore.specs.declared.links.Link.{Link}
use Rattle.ls_explore.proofs.Paths.{path_none, path_on}
use Rattle.ls_explore.proofs.links.last_step.Goals as goal

none : Link
none = record { before = 0; thread = 0 }

pub returns-then-before-at-clause-none : goal.returns-then-before-at-clause-none
unfolding none
returns-then-before-at-clause-none c = path_none c.args.links.now c.args.at (get_or c.args.links.now c.args.at none)
    (slice_get-get_or c.args.links.now c.args.at none c.requires) c.if-before-at.true

pub returns-clause-some : goal.returns-clause-some
unfolding none
returns-clause-some c = path_on c.args.links.now c.args.at (get_or c.args.links.now c.args.at none)
    (slice_get-get_or c.args.links.now c.args.at none c.requires) c.if-before-at.false
