-- Why `number_asked` in src/words.rt keeps its contract.

use Rattle.std.proofs.Common.{◌∙◌, ap, ℕ}
use Rattle.std.specs.Prelude.{Result}
use Rattle.std.specs.Str.Parse.{ParsesUnsigned, ExplainsUnsignedError, HasUnsignedDigitsIfOk}
use Rattle.std.specs.declared.num.ParseIntError.{ParseIntError}
use Rattle.clap.specs.Words.{Text, found_of}
use Rattle.clap.proofs.WalkLemmas.{one_text-rows}
use Rattle.ls_command_line.specs.Words.{number_in}
use Rattle.ls_command_line.proofs.Numbers.{read_asked}
use Rattle.ls_command_line.proofs.words.number_asked.Goals as goal

abbrev G : Text → Result ℕ ParseIntError → Type 0
G bs r = ParsesUnsigned 64 10 bs r × ExplainsUnsignedError 10 bs r × HasUnsignedDigitsIfOk bs r

pub returns : goal.returns
returns c =
    read_asked G (λ t r h. h.0) _ c.get_one.result c.get_one.ensures.none c.get_one.ensures.value
    ∙ ap number_in (one_text-rows (found_of c.args.options.now) c.args.name.now)
