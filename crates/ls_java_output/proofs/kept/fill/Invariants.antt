-- What the loop `lines` of `fill` in src/kept.rt keeps, and why it ends.

use Rattle.std.proofs.Common.{◌≡◌, ◌≤◌, ◌-◌, length}
use Rattle.ls_java_output.specs.Lines.{IsKept}
use Rattle.ls_java_output.proofs.kept.fill.Given as goal

abbrev pub invariant-lines : goal.invariant-lines
invariant-lines l = record {
  kept : IsKept l.source.text.now (length l.source.tokens.now) l.page;
  line : l.initial.page.line ≤ l.goal → l.page.line ≤ l.goal;
  here : l.page.here ≡ l.initial.page.here;
}

abbrev pub decreases-lines : goal.decreases-lines
decreases-lines l = l.goal - l.page.line
