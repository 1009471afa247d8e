-- What the loop `option` of `takes_value` in src/options.rt keeps.

use Rattle.std.proofs.Common.{◌≡◌, drop, map}
use Rattle.clap.specs.Words.{rule_of}
use Rattle.ls_command_line.specs.Sorting.{takes_value}
use Rattle.ls_command_line.proofs.options.takes_value.Given as goal

abbrev pub invariant-loop-option : goal.invariant-loop-option
invariant-loop-option l =
    takes_value l.name (map rule_of (drop l.option-index l.options)) ≡ takes_value l.name (map rule_of l.options)
