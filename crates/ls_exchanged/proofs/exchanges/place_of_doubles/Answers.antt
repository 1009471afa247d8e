-- Why `place_of_doubles` in src/exchanges.rt keeps its clause `none`.

use Rattle.std.proofs.Common.{Option, Some, None, IfNone, map, subst, sym}
use Rattle.ls_checked.specs.PlainProgram.{plain_thread}
use Rattle.ls_exchanged.specs.Doubles.{HaveExchangedAt}
use Rattle.ls_exchanged.proofs.exchanges.place_of_doubles.Goals as goal

if_none : {X P Q : Type 0} (o : Option X) → (P → Q) → IfNone o P → IfNone o Q
if_none None f p = f p
if_none (Some x) f p = tt

pub returns-clause-none : goal.returns-clause-none
returns-clause-none c =
    if_none c.exchanged_place.result (λ none place d. none place
    (subst (λ ts. HaveExchangedAt (map plain_thread ts) (map plain_thread c.as_slice-2.result.now) place)
    (sym c.as_slice.ensures.value)
    (subst (λ ts. HaveExchangedAt (map plain_thread c.args.first.now.threads.items) (map plain_thread ts) place)
    (sym c.as_slice-2.ensures.value) d.calls))) c.exchanged_place.ensures.none
