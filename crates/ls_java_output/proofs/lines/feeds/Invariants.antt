-- What the loop `byte` of `feeds` in src/lines.rt keeps.

use Rattle.std.proofs.Common.{◌≡◌, ◌≤◌, take}
use Rattle.ls_java_output.specs.Lines.{ends_in}
use Rattle.ls_java_output.proofs.lines.feeds.Given as goal

abbrev pub invariant-loop-byte : goal.invariant-loop-byte
invariant-loop-byte l = (l.count ≡ ends_in (take l.byte-index l.bytes)) × (l.count ≤ l.byte-index)
