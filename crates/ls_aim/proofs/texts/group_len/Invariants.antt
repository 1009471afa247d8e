-- What the loop `b` of `group_len` in src/texts.rt keeps.

use Rattle.std.proofs.Common.{◌≡◌, ◌+◌, ◌≤◌, drop}
use Rattle.ls_aim.specs.Texts.{group_len}
use Rattle.ls_aim.proofs.texts.group_len.Given as goal

abbrev pub invariant-loop-b : goal.invariant-loop-b
invariant-loop-b l = record {
  count : l.len ≡ l.b-index;
  few : l.depth ≤ l.b-index;
  all : l.len + group_len l.depth (drop l.b-index l.text) ≡ group_len 0 l.text;
}
