-- What the loop `word` of `all_placed` in src/sorting.rt keeps.

use Rattle.std.proofs.Common.{◌≡◌, drop, map}
use Rattle.std.specs.Prelude.{string_bytes}
use Rattle.clap.specs.Words.{rule_of}
use Rattle.ls_command_line.specs.Sorting.{all_placed, plain_given}
use Rattle.ls_command_line.proofs.sorting.all_placed.Given as goal

abbrev pub invariant-loop-word : goal.invariant-loop-word
invariant-loop-word l =
    all_placed l.command (map rule_of l.options) (map string_bytes (drop l.word-index l.words)) (plain_given l.given)
    ≡ all_placed l.command (map rule_of l.options) (map string_bytes l.words) (plain_given l.fn.given)
