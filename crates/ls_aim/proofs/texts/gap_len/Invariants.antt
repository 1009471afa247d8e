-- What the loop `b` of `gap_len` in src/texts.rt keeps.

use Rattle.std.proofs.Common.{◌≡◌, ◌+◌, drop}
use Rattle.std.specs.List.{prefix_len}
use Rattle.ls_items.specs.Items.{is_gap}
use Rattle.ls_aim.proofs.texts.gap_len.Given as goal

abbrev pub invariant-loop-b : goal.invariant-loop-b
invariant-loop-b l = record {
  count : l.len ≡ l.b-index;
  all : l.len + prefix_len is_gap (drop l.b-index l.text) ≡ prefix_len is_gap l.text;
}
