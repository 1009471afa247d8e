-- What the loop `way` of `put_beyond` in src/ways.rt keeps.

use Rattle.std.proofs.Common.{◌≡◌, ◌++◌, drop}
use Rattle.ls_linker.specs.Costs.{beyond}
use Rattle.ls_linker.proofs.ways.put_beyond.Given as goal

abbrev pub invariant-loop-way : goal.invariant-loop-way
invariant-loop-way l = l.out.items ++ beyond l.inside (drop l.way-index l.ways) ≡ l.initial.out.items ++
    beyond l.inside l.ways
