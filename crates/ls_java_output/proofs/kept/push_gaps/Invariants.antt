-- What the loop `gaps` of `push_gaps` in src/kept.rt keeps.

use Rattle.std.proofs.Common.{◌≡◌, ◌≤◌, length}
use Rattle.ls_java_output.specs.Lines.{IsKept}
use Rattle.ls_java_output.proofs.kept.push_gaps.Given as goal

abbrev pub invariant-gaps : goal.invariant-gaps
invariant-gaps l = record {
  kept : IsKept l.source.text.now (length l.source.tokens.now) l.page;
  line : l.page.line ≤ l.goal;
  here : l.page.here ≡ l.initial.page.here;
}
