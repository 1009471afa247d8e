-- Why `options_of` in src/options.rt keeps its contract.

use Rattle.std.proofs.Common.{◌∙◌, Option, Some, ap, map}
use Rattle.std.specs.Prelude.{option_map}
use Rattle.clap.specs.Words.{Shape, rule_of}
use Rattle.ls_command_line.proofs.options.options_of.Goals as goal

pub returns-in-Some : goal.returns-in-Some
returns-in-Some c =
    ap (λ args. Some (map rule_of args)) c.get_arguments.ensures
    ∙ ap (λ (o : Option Shape). option_map (λ s. s.rules) o) c.in-Some.ensures.first

pub returns-in-None : goal.returns-in-None
returns-in-None c = ap (λ (o : Option Shape). option_map (λ s. s.rules) o) c.in-None.ensures.first
