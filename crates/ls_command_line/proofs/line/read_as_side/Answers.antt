-- Why `read_as_side` in src/line.rt keeps its contract.

use Rattle.std.proofs.Common.{◌≡◌, ◌∙◌, ap, rules, subst, sym, map, codes, ◌∷◌, []}
use Rattle.ls_command_line.specs.Words.{NamesSides}
use Rattle.ls_command_line.proofs.line.read_as_side.Goals as goal

pub returns : goal.returns
returns c =
    let given = c.value_parser.ensures.given in
    let words_are : map (λ s. s.now) c.as_slice.result.now ≡ codes "source" ∷ codes "machine" ∷ [] = search rules in (
      given.0,
      subst NamesSides (sym given.2) words_are,
      c.value_parser.ensures.others ∙ ap (λ p. record c.args.arg { value_parser = p }) given.1,
    )
