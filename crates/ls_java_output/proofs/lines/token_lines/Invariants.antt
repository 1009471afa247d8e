-- What the loop `token` of `token_lines` in src/lines.rt keeps.

use Rattle.std.proofs.Common.{◌≡◌, take}
use Rattle.ls_java_output.specs.Lines.{ends_before, lines_of}
use Rattle.ls_java_output.proofs.lines.token_lines.Given as goal

abbrev pub invariant-loop-token : goal.invariant-loop-token
invariant-loop-token l =
    (l.lines.items ≡ lines_of l.text (take l.token-index l.tokens)) × (l.ends ≡ ends_before l.at l.text)
