-- What the loop `line` of `unmarked` in src/marks.rt keeps, and why the loop ends.

use Rattle.std.proofs.Common.{◌≡◌, ◌++◌, length}
use Rattle.std.specs.Prelude.{string_bytes}
use denote.Shadow.{shadow}
use denote.Text.{Utf8}
use Rattle.ls_files.specs.Files.{unmarked}
use Rattle.ls_files.proofs.marks.unmarked.Given as goal

abbrev pub invariant-loop-line : goal.invariant-loop-line
invariant-loop-line l = record {
  rest_text : shadow (Utf8 l.rest);
  so_far : string_bytes l.out ++ unmarked l.rest ≡ unmarked l.text;
}

abbrev pub decreases-loop-line : goal.decreases-loop-line
decreases-loop-line l = length l.rest
