-- Why `sort_words` in src/sorting.rt keeps its contract.

use Rattle.std.proofs.Common.{◌∙◌, ap, map}
use Rattle.std.specs.Prelude.{string_bytes}
use Rattle.std.proofs.lemmas.Result.{IfOk-weaker}
use Rattle.clap.specs.Words.{App}
use Rattle.ls_command_line.specs.Sorting.{sorted_for}
use Rattle.ls_command_line.proofs.sorting.sort_words.Goals as goal

pub returns : goal.returns
returns c =
    let p = c.in_ok-program.ensures in
    IfOk-weaker c.sorted_for.result _ _
    (λ g e. (p.0, p.1, e ∙ ap (λ (a : App). sorted_for a (map string_bytes c.args.words.now)) p.2))
    c.sorted_for.ensures
