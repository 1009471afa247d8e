-- Why `number_in` in src/words.rt keeps its contract.

use Rattle.std.proofs.Common.{◌∙◌, ap}
use Rattle.std.specs.Result.{result_ok}
use Rattle.std.proofs.lemmas.Fmt.{parse-decimal}
use Rattle.ls_find_reports.proofs.words.number_in.Goals as goal

pub returns : goal.returns
returns c = λ n small e.
    c.ok.ensures.value ∙ ap result_ok (parse-decimal 64 n c.args.text.now c.parse.result small small e
    c.parse.ensures.value.0)
