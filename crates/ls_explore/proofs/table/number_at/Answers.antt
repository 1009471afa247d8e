-- Why `number_at` in src/table.rt keeps its clause `is`.

use Rattle.std.proofs.Common.{◌∙◌, ap, subst}
use Rattle.ls_code.specs.Machine.{Machine}
use Rattle.ls_history_numbers.specs.Numbers.{IsOf}
use Rattle.ls_explore.proofs.table.number_at.Goals as goal

pub returns-clause-is : goal.returns-clause-is
returns-clause-is c = λ path here.
    subst (IsOf c.number_of.new.all.items c.in_ok-number.number)
    (c.history.ensures ∙ ap (λ (m : Machine). m.history) (c.stand_at.ensures.at path here))
    c.in_ok-number.ensures.is
