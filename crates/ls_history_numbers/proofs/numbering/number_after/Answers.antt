-- Why `number_after` in src/numbering.rt keeps its clause `is`.

use Rattle.std.proofs.Common.{◌++◌, ◌∷◌, [], List, ap, ◌∙◌, subst}
use Rattle.std.specs.Prelude.{slice_get}
use Rattle.ls_history_numbers.specs.declared.numbering.Known.{Known}
use Rattle.ls_history_numbers.specs.Numbers.{IsOf}
use Rattle.ls_history_numbers.proofs.numbering.number_after.Goals as goal

pub returns-in-Some-clause-is : goal.returns-in-Some-clause-is
returns-in-Some-clause-is c = λ p p_is.
    subst (λ (l : List Known). IsOf l c.in-Some.longer (p.events.items ++ c.args.event.now ∷ [])) c.deref.ensures.value
    (c.in-Some.ensures.some p (ap (λ (l : List Known). slice_get l c.args.number) c.deref.ensures.value ∙ p_is))
