-- Why `read_as_number` in src/line.rt keeps its contract.

use Rattle.std.proofs.Common.{◌∙◌, ap, Some}
use Rattle.ls_command_line.proofs.line.read_as_number.Goals as goal

pub returns : goal.returns
returns c =
    let given = c.value_parser-2.ensures.given in
    c.value_parser-2.ensures.others ∙
    ap (λ p. record c.args.arg { value_parser = p }) (given.1 ∙ ap Some (given.2 ∙ c.value_parser.ensures))
