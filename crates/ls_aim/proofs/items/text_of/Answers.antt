-- Why `text_of` in src/items.rt keeps its clause `some`.

use Rattle.std.proofs.Common.{eq-eqb}
use Rattle.std.proofs.lemmas.Str.{utf8_valid_len-IsUtf8}
use Rattle.ls_aim.proofs.items.text_of.Goals as goal

pub returns-in-Ok-clause-some : goal.returns-in-Ok-clause-some
returns-in-Ok-clause-some c =
    let cases = c.in-Ok.ensures.cases in
    (cases.0, eq-eqb _ _ (utf8_valid_len-IsUtf8 c.args.item.now cases.1))
