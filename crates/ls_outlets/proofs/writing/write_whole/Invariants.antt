-- What the loop `done` of `write_whole` in src/writing.rt keeps, and why the loop ends.

use Rattle.std.proofs.Common.{◌≡◌, ◌-◌, ◌≤◌, length, take, true}
use Rattle.std.specs.Io.KnownBytes.{Appends}
use Rattle.ls_outlets.proofs.writing.write_whole.Given as goal

abbrev pub invariant-loop-done : goal.invariant-loop-done
invariant-loop-done g l = record {
  within : l.done ≤ length l.bytes;
  written : Appends (g.W.Write.contents l.fn.writer) (g.W.Write.contents l.writer) (take l.done l.bytes);
  kept : g.W.Outlet.has_failed l.fn.writer ≡ true → g.W.Outlet.has_failed l.writer ≡ true;
}

abbrev pub decreases-loop-done : goal.decreases-loop-done
decreases-loop-done g l = length l.bytes - l.done
