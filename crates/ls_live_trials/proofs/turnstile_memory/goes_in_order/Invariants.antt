-- What the loops `place` and `thread` of `goes_in_order` in src/turnstile_memory.rt keep.

use Rattle.std.specs.Prelude.{All}
use Rattle.ls_live.specs.Turns.{IsSeatOf}
use Rattle.ls_live_trials.proofs.turnstile_memory.goes_in_order.Given as goal

abbrev pub invariant-loop-place : goal.invariant-loop-place
invariant-loop-place l = All (IsSeatOf l.turnstile) l.seats

abbrev pub invariant-loop-thread : goal.invariant-loop-thread
invariant-loop-thread l = All (IsSeatOf l.turnstile) l.seats
