-- Why `number_option` in src/line.rt keeps its clause `rule`.

use Rattle.std.proofs.Common.{◌∙◌, ap, Some}
use Rattle.clap.specs.Words.{Rule, rule_of}
use Rattle.ls_command_line.specs.Words.{u64_parser}
use Rattle.ls_command_line.proofs.line.number_option.Goals as goal

-- Each setter changes its field of the rule, or nothing that the rule has.
pub returns-clause-rule : goal.returns-clause-rule
returns-clause-rule c =
    ap rule_of c.help.ensures ∙ ap rule_of c.value_name.ensures
    ∙ ap (λ (r : Rule). record r { value_names = 1 }) (ap rule_of c.required.ensures ∙
    ap (λ (r : Rule). record r { required = c.args.required }) (ap rule_of c.long.ensures
    ∙ ap (λ (r : Rule). record r { long = Some c.args.name.now }) (ap rule_of c.read_as_number.ensures
    ∙ ap (λ (r : Rule). record r { parser = Some u64_parser }) c.new.ensures.rule)))
