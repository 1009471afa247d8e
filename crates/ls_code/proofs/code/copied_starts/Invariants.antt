-- What the loop `start` of `copied_starts` in src/code.rt keeps.

use Rattle.std.proofs.Common.{◌≡◌, take}
use Rattle.ls_code.proofs.code.copied_starts.Given as goal

abbrev pub invariant-loop-start : goal.invariant-loop-start
invariant-loop-start l = l.copies.items ≡ take l.start-index l.starts
