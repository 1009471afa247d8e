-- What the loop `entry` of `check_entries` in src/checking.rt keeps.

use Rattle.std.proofs.Common.{◌≡◌, ◌<◌, ℕ}
use Rattle.std.specs.Prelude.{Some, slice_get}
use Rattle.ls_class_programs.specs.Written.{Entry, entries}
use Rattle.ls_class_programs.specs.Entries.{AreCalls}
use Rattle.ls_class_programs.proofs.checking.check_entries.Given as goal

abbrev pub invariant-loop-entry : goal.invariant-loop-entry
invariant-loop-entry l = record {
  same : l.entry-items ≡ entries l.menu;
  before : (k : ℕ) → k < l.entry-index → (e : Entry) → slice_get (entries l.menu) k ≡ Some e →
      AreCalls l.classes l.making l.threads e;
}
