-- What the loop `wanted` of `agreeing` in src/turnstile_seats.rt keeps.

use Rattle.std.specs.Prelude.{All}
use Rattle.ls_live.specs.Turns.{IsSeatOf}
use Rattle.ls_live_trials.proofs.turnstile_seats.agreeing.Given as goal

abbrev pub invariant-loop-wanted : goal.invariant-loop-wanted
invariant-loop-wanted l = All (IsSeatOf l.turnstile) l.seats
