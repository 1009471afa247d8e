-- What the loop `way` of `put_all` in src/ways.rt keeps.

use Rattle.std.proofs.Common.{◌≡◌, ◌++◌, drop}
use Rattle.ls_linker.proofs.ways.put_all.Given as goal

abbrev pub invariant-loop-way : goal.invariant-loop-way
invariant-loop-way l = l.out.items ++ drop l.way-index l.ways ≡ l.initial.out.items ++ l.ways
