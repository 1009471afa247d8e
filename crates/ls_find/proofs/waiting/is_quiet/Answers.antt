-- Why `is_quiet` in src/waiting.rt keeps its contract.

use Rattle.std.proofs.Common.{◌∙◌, subst}
use Rattle.ls_serial_search.specs.Histories.{lists_of}
use Rattle.ls_find.specs.Verdicts.{AllExcused}
use Rattle.ls_find.proofs.waiting.is_quiet.Goals as goal

pub returns-in-None : goal.returns-in-None
returns-in-None c = λ up. subst (λ vs. AllExcused (lists_of vs) c.args.rows.now)
    (c.as_slice.ensures.value ∙ c.new-none.ensures.items) c.in-None.ensures.none
