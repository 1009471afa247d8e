-- Why `side_option` in src/line.rt keeps its clause `rule`.

use Rattle.std.proofs.Common.{◌∙◌, ap, Some, true, codes}
use Rattle.clap.specs.Words.{Rule, rule_of}
use Rattle.ls_command_line.proofs.line.side_option.Goals as goal

pub returns-clause-rule : goal.returns-clause-rule
returns-clause-rule c =
    let sides = c.read_as_side.ensures in (
      sides.0,
      sides.1,
      ap rule_of c.help.ensures ∙ ap rule_of c.value_name.ensures
          ∙ ap (λ (r : Rule). record r { value_names = 1 }) (ap rule_of c.required.ensures ∙
          ap (λ (r : Rule). record r { required = true }) (ap rule_of c.long.ensures
          ∙ ap (λ (r : Rule). record r { long = Some (codes "to") }) (ap rule_of sides.2
          ∙ ap (λ (r : Rule). record r { parser = Some sides.0 }) c.new.ensures.rule))),
    )
