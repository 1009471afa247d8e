-- Why `is_given` in src/words.rt keeps its contract.

use Rattle.std.proofs.Common.{◌∙◌, ap, Bool}
use Rattle.std.specs.Prelude.{Option, is_some}
use Rattle.clap.specs.Words.{Text, found_of}
use Rattle.clap.proofs.WalkLemmas.{first_value-rows}
use Rattle.ls_command_line.proofs.words.is_given.Goals as goal

abbrev is_there : Option Text → Bool
is_there o = is_some o

pub returns-in-Some : goal.returns-in-Some
returns-in-Some c = ap is_there (c.in-Some.ensures ∙ first_value-rows (found_of c.args.options.now) c.args.name.now)

pub returns-in-None : goal.returns-in-None
returns-in-None c = ap is_there (c.in-None.ensures ∙ first_value-rows (found_of c.args.options.now) c.args.name.now)
