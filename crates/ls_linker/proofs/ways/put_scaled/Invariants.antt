-- What the loop `way` of `put_scaled` in src/ways.rt keeps.

use Rattle.std.proofs.Common.{◌≡◌, ◌++◌, drop}
use Rattle.ls_linker.specs.Costs.{scaled}
use Rattle.ls_linker.proofs.ways.put_scaled.Given as goal

abbrev pub invariant-loop-way : goal.invariant-loop-way
invariant-loop-way l = l.out.items ++ scaled l.times (drop l.way-index l.ways) ≡ l.initial.out.items ++
    scaled l.times l.ways
