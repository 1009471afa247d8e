-- What the loop `word` of `copied` in src/sorting.rt keeps.

use Rattle.std.proofs.Common.{◌≡◌, map, take}
use Rattle.std.specs.Prelude.{string_bytes}
use Rattle.ls_command_line.proofs.sorting.copied.Given as goal

abbrev pub invariant-loop-word : goal.invariant-loop-word
invariant-loop-word l = map string_bytes l.copies.items ≡ map string_bytes (take l.word-index l.words)
