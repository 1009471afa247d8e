-- Why `access_in` in src/nodes.rt keeps its contract.
use Rattle.std.proofs.Common.{◌∙◌, map, sym, ap}
use Rattle.ls_races.specs.Moves.{access_in}
use Rattle.ls_races.specs.Volatile.{volatile_by}
use Rattle.ls_races.proofs.nodes.access_in.Goals as goal

pub returns-in-Acts : goal.returns-in-Acts
returns-in-Acts c = λ s things.
    c.access_of.ensures s things
    ∙ ap (access_in (volatile_by (map (λ v. v.items) c.args.classes.now)) s) (sym c.in-Acts.is)
