-- Why `forget_local` in src/forgetting.rt keeps its contract.

use Rattle.std.proofs.Common.{rules, ◌≡◌, true}
use Rattle.ls_events.specs.declared.value.Value.TheVariants.{Reference}
use Rattle.ls_source_pending.specs.SeenPending.{state_of}
use Rattle.ls_dead_locals.specs.Around.{control_dead, frames_ways}
use Rattle.ls_dead_locals.proofs.Forgotten.{one_forgotten}
use Rattle.ls_dead_locals.proofs.forgetting.forget_local.Goals as goal

pub returns-then-is_forgettable-clause-same : goal.returns-then-is_forgettable-clause-same
returns-then-is_forgettable-clause-same c =
    let s = state_of c.args.work.now in
    let dead : control_dead c.args.slot s.control (frames_ways c.args.slot s.frames) ≡ true = search rules in
    one_forgotten s c.args.slot (Reference 0) dead
