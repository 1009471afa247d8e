-- What the loop `byte` of `block_len` in src/blocks.rt keeps.

use Rattle.std.proofs.Common.{◌≡◌, ◌+◌, drop, true}
use Rattle.std.specs.Prelude.{option_map}
use Rattle.ls_tallies.specs.Blocks.{block_len}
use Rattle.ls_tallies.proofs.blocks.block_len.Given as goal

abbrev pub invariant-loop-byte : goal.invariant-loop-byte
invariant-loop-byte l = record {
  place : l.len ≡ l.byte-index;
  rest : option_map (λ n. l.len + n) (block_len l.starts (drop l.byte-index l.text)) ≡ block_len true l.text;
}
