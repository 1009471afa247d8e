-- Why `unknown_words` in src/lines.rt keeps its contract.

use Rattle.std.proofs.Common.{◌∙◌, ◌++◌, codes}
use Rattle.std.specs.Fmt.{decimal}
use Rattle.ls_find_serial.proofs.lines.unknown_words.Goals as goal

pub returns : goal.returns
returns c =
    c.in_ok-write.ensures.bytes ∙
    (λ i. c.new-text.ensures.bytes i ++ (codes "// in " ++ (decimal c.args.unknown ++
    (codes " it isn't known whether " ++ (c.fault_words-does.ensures i ++ codes "\n")))))
