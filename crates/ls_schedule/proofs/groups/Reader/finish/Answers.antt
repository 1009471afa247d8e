-- Why `Reader::finish` in src/groups.rt keeps its contract.

use Rattle.std.proofs.Common.{◌∙◌, ◌<◌, length, Err, ap, sym, arith}
use Rattle.std.proofs.lemmas.Grind.{common_steps}
use Rattle.ls_schedule.specs.declared.fault.ScheduleFault.TheVariants as fault
use Rattle.ls_schedule.specs.Answers.{so_far}
use Rattle.ls_schedule.specs.Passing.{place_of, places}
use Rattle.ls_schedule.proofs.Passes.{finished_open}
use Rattle.ls_schedule.proofs.groups.Reader.finish.Goals as goal

pub returns-then-not-is_empty : goal.returns-then-not-is_empty
returns-then-not-is_empty c =
    let some : 0 < length c.args.self.open_groups.items = grind (arith, common_steps) in
    finished_open c.args.self.open_groups.items (so_far c.args.self.fits c.args.self.schedule) some
    ∙ ap (λ os. Err (fault.BadItem (place_of (places os) 0))) (sym c.as_slice.ensures.value)
    ∙ ap (λ a. Err (fault.BadItem a)) (sym c.place_at.ensures)
