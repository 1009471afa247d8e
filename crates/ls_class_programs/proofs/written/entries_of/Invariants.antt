-- What the loop `line` of `entries_of` in src/written.rt keeps.

use Rattle.std.proofs.Common.{◌≡◌, ◌+◌, ◌++◌, drop, length, map}
use Rattle.ls_items.specs.Cutting.{plain_text}
use Rattle.ls_class_programs.specs.Written.{entries, entries_from}
use Rattle.ls_class_programs.proofs.Lines.{all_fed}
use Rattle.ls_class_programs.proofs.written.entries_of.Given as goal

abbrev pub invariant-loop-line : goal.invariant-loop-line
invariant-loop-line l = record {
  had : l.all.items ++ entries_from l.at (map plain_text (drop l.line-index l.line-items)) ≡ entries l.text;
  size : l.at + all_fed (map plain_text (drop l.line-index l.line-items)) ≡ length l.text + 1;
}
