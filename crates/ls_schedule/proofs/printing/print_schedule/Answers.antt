-- Why `print_schedule` in src/printing.rt keeps its contract.

use Rattle.std.proofs.Common.{◌∙◌, ◌++◌, ap, arith, length, get_or, ◌<◌, refl, map}
use Rattle.std.proofs.lemmas.Grind.{common_steps}
use Rattle.ls_schedule.specs.Printing.{item_text}
use Rattle.ls_schedule.specs.Reading.{thread_name}
use Rattle.ls_schedule.proofs.Runs.{goes_on}
use Rattle.ls_schedule.proofs.printing.print_schedule.Goals as goal

pub items-preserved : goal.items-preserved
items-preserved c =
    let some : 0 < length c.items.rest.now = grind (arith, common_steps) in
    goes_on (map thread_name c.as_slice-threads.result.now) _ _ c.items.rest.now _ _ _ _ some refl
    c.run_len-len.ensures.len c.split_at.ensures.back
    (c.in_ok-push_item.ensures ∙ ap (λ x. x ++ item_text (map thread_name c.as_slice-threads.result.now)
    (get_or c.items.rest.now 0 0, c.run_len-len.result)) c.in_ok-push_gap.ensures) c.items.invariant
