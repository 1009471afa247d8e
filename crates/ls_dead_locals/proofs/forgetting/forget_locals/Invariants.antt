-- What the loop of `forget_locals` in src/forgetting.rt keeps: the work means what it meant at first.

use Rattle.std.proofs.Common.{◌≡◌, length}
use Rattle.ls_source_pending.specs.SeenPending.{state_of}
use Rattle.ls_dead_locals.specs.Same.{IsSameWork}
use Rattle.ls_dead_locals.proofs.forgetting.forget_locals.Given as goal

abbrev pub invariant-loop-slot : goal.invariant-loop-slot
invariant-loop-slot l =
    IsSameWork (state_of l.initial.work) (state_of l.work)
    × (length l.work.locals.items ≡ length l.initial.work.locals.items)
