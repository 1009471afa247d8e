-- What the loop `front` of `push_numbered` in src/texts.rt keeps, and why the loop ends.

use Rattle.std.proofs.Common.{◌≡◌, ◌++◌, length, string_bytes}
use denote.Shadow.{shadow}
use denote.Text.{Utf8}
use Rattle.ls_families.specs.Texts.{numbered}
use Rattle.ls_families.proofs.texts.push_numbered.Given as goal

abbrev pub invariant-loop-front : goal.invariant-loop-front
invariant-loop-front l = record {
  text : shadow (Utf8 l.left);
  done : string_bytes l.out ++ numbered l.i l.left ≡ string_bytes l.fn.out ++ numbered l.i l.text;
}

abbrev pub decreases-loop-front : goal.decreases-loop-front
decreases-loop-front l = length l.left
