-- What the loop `value` of `push_more` in src/lines.rt keeps.

use Rattle.std.proofs.Common.{◌≡◌, ◌++◌, drop, string_bytes}
use Rattle.ls_report.specs.Lines.{more_arguments}
use Rattle.ls_report.proofs.lines.push_more.Given as goal

abbrev pub invariant-loop-value : goal.invariant-loop-value
invariant-loop-value l = string_bytes l.out ++ more_arguments (drop l.value-index l.values) ≡ string_bytes l.fn.out ++
    more_arguments l.values
