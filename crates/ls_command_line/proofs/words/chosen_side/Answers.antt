-- Why `chosen_side` in src/words.rt keeps its contract.

use Rattle.std.proofs.Common.{◌∙◌, ap, codes}
use Rattle.std.specs.Option.{option_map_or}
use Rattle.std.specs.Prelude.{Option}
use Rattle.clap.specs.Words.{Text, found_of}
use Rattle.clap.proofs.WalkLemmas.{first_value-rows}
use Rattle.ls_command_line.specs.Words.{named_side}
use Rattle.ls_command_line.specs.declared.words.Side.{Side}
use Rattle.ls_command_line.specs.declared.words.Side.TheVariants.{Machine}
use Rattle.ls_command_line.proofs.words.chosen_side.Goals as goal

abbrev chosen : Option Text → Side
chosen o = option_map_or named_side o Machine

pub returns-in-Some : goal.returns-in-Some
returns-in-Some c =
    c.side_named.ensures ∙ ap chosen (c.in-Some.ensures ∙ first_value-rows (found_of c.args.options.now) (codes "to"))

pub returns-in-None : goal.returns-in-None
returns-in-None c = ap chosen (c.in-None.ensures ∙ first_value-rows (found_of c.args.options.now) (codes "to"))
