-- What the loop `byte` of `push_spaces` in src/explaining.rt keeps.

use Rattle.std.proofs.Common.{◌≡◌, ◌++◌, take}
use Rattle.std.specs.List.{flat_map}
use Rattle.ls_explanations.specs.Explanations.{space_below}
use Rattle.ls_explanations.proofs.explaining.push_spaces.Given as goal

abbrev pub invariant-loop-byte : goal.invariant-loop-byte
invariant-loop-byte l = l.out.items ≡ l.fn.out.items ++ flat_map space_below (take l.byte-index l.before)
