-- What the loop `one` of `joined` in src/programs.rt keeps.

use Rattle.std.proofs.Common.{◌≡◌, Ok, map}
use Rattle.ls_find_serial.proofs.programs.joined.Given as goal

abbrev pub invariant-loop-one : goal.invariant-loop-one
invariant-loop-one l = l.yielded ≡ map (λ t. Ok t) l.told.items
