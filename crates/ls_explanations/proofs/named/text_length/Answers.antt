-- Why `text_length` in src/named.rt keeps its contract.

use Rattle.std.proofs.Common.{◌∙◌, ap, length, sym}
use Rattle.std.proofs.lemmas.Str.{utf8_valid_len-IsUtf8}
use Rattle.ls_explanations.proofs.named.text_length.Goals as goal

pub returns-in-Ok : goal.returns-in-Ok
returns-in-Ok c =
    let cases = c.in-Ok.ensures.cases in
    ap length cases.0 ∙ sym (utf8_valid_len-IsUtf8 c.args.input.now cases.1)
