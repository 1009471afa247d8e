-- What the loop `line` of `parts_of` in src/parts.rt keeps, and why the loop ends.

use Rattle.std.proofs.Common.{◌≡◌, ◌++◌, List, ℕ, Option, length, map}
use denote.Shadow.{shadow}
use denote.Text.{Utf8}
use Rattle.ls_items.specs.Cutting.{IsOpen, open_with, plain_text}
use Rattle.ls_items.specs.Parts.{groups_of, lines_of, parts_of}
use Rattle.ls_items.proofs.parts.parts_of.Given as goal

abbrev pub invariant-loop-line : goal.invariant-loop-line
invariant-loop-line l = record {
  rest_text : shadow (Utf8 l.rest);
  part_text : shadow (Utf8 l.part);
  parts : (had : Option (List ℕ)) × IsOpen l.part l.len l.rest had
      × (map plain_text l.parts.items ++ open_with had (groups_of (lines_of l.rest)) ≡ parts_of l.text);
}

abbrev pub decreases-loop-line : goal.decreases-loop-line
decreases-loop-line l = length l.rest
