-- Why `answer_text` in src/answer.rt keeps its clause `gives`.

use Rattle.std.proofs.Common.{◌∙◌, ap, map, subst}
use Rattle.ls_faults.specs.Given.{GivesText}
use Rattle.ls_items.specs.Cutting.{plain_text}
use Rattle.ls_tool.specs.Output.{AnswersBy}
use Rattle.ls_tool.proofs.Inputs.{on_parts}
use Rattle.ls_tool.proofs.answer.answer_text.Goals as goal

pub returns-clause-gives : goal.returns-clause-gives
returns-clause-gives g c =
    let parts = ap (map plain_text) c.as_slice.ensures.value ∙ c.in_ok-parts.ensures in
    on_parts c.args.spec c.args.request c.args.text.now c.decide_by.result c.in_default.not-Merge
    c.requires
    (subst (λ ps. GivesText (AnswersBy c.args.spec c.args.request ps) c.decide_by.result) parts
    c.decide_by.ensures.gives)
