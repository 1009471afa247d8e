-- What the loop `all` of `write_leaves` in src/keeping.rt keeps.

use Rattle.std.proofs.Common.{◌≡◌, length}
use Rattle.ls_java_output.specs.Lines.{IsKept}
use Rattle.ls_java_output.proofs.keeping.write_leaves.Given as goal

abbrev pub invariant-all : goal.invariant-all
invariant-all l = record {
  kept : IsKept l.source.text.now (length l.source.tokens.now) l.page;
  here : l.page.here ≡ l.page.line;
}
