-- What the loop `i` of `same_thread_names` in src/exchanges.rt keeps.

use Rattle.std.proofs.Common.{◌≡◌, map, take}
use Rattle.ls_exchanged.proofs.Named.{name_in}
use Rattle.ls_exchanged.proofs.exchanges.same_thread_names.Given as goal

abbrev pub invariant-loop-i : goal.invariant-loop-i
invariant-loop-i l = take l.i (map name_in l.first) ≡ take l.i (map name_in l.second)
