-- Why `number` in src/words.rt keeps its contract.

use Rattle.std.proofs.Common.{◌∙◌, ap, sym, ℕ}
use Rattle.std.specs.Prelude.{Option, Result, unwrap_or}
use Rattle.std.specs.Str.Parse.{ParsesUnsigned, ExplainsUnsignedError, HasUnsignedDigitsIfOk}
use Rattle.std.specs.declared.num.ParseIntError.{ParseIntError}
use Rattle.clap.specs.Words.{Text, found_of}
use Rattle.clap.proofs.WalkLemmas.{one_text-rows}
use Rattle.ls_command_line.specs.Words.{number_or}
use Rattle.ls_command_line.proofs.Numbers.{read_number}
use Rattle.ls_command_line.proofs.words.number.Goals as goal

abbrev G : Text → Result ℕ ParseIntError → Type 0
G bs r = ParsesUnsigned 64 10 bs r × ExplainsUnsignedError 10 bs r × HasUnsignedDigitsIfOk bs r

pub returns-in-Some : goal.returns-in-Some
returns-in-Some c =
    let d = c.args.default in
    sym (ap (λ (r : Option ℕ). unwrap_or r d) c.in-Some.is) ∙
    read_number G (λ t r h. h.0) _ d c.get_one.result c.get_one.ensures.none c.get_one.ensures.value
    ∙ ap (number_or d) (one_text-rows (found_of c.args.options.now) c.args.name.now)

pub returns-in-None : goal.returns-in-None
returns-in-None c =
    let d = c.args.default in
    sym (ap (λ (r : Option ℕ). unwrap_or r d) c.in-None.is) ∙
    read_number G (λ t r h. h.0) _ d c.get_one.result c.get_one.ensures.none c.get_one.ensures.value
    ∙ ap (number_or d) (one_text-rows (found_of c.args.options.now) c.args.name.now)
