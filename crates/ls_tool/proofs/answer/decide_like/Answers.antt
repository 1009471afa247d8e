-- Why `decide_like` in src/answer.rt keeps its clause `gives` where a command takes no reference.

use Rattle.std.proofs.Common.{map}
use Rattle.ls_items.specs.Cutting.{plain_text}
use Rattle.ls_tool.proofs.Referring.{as_ever}
use Rattle.ls_tool.proofs.answer.decide_like.Goals as goal

pub returns-in_default-clause-gives : goal.returns-in_default-clause-gives
returns-in_default-clause-gives g c =
    as_ever c.args.request (map plain_text c.args.parts.now) c.decide.result c.in_default.not-Find c.in_default.not-Page
    c.in_default.not-Order c.in_default.not-Explore c.in_default.not-Verdict c.in_default.not-Races
    c.in_default.not-Ends c.in_default.not-Batch c.decide.ensures.gives
