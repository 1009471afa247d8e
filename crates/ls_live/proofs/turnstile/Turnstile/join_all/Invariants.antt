-- What the loop `seat` of `Turnstile::join_all` in src/turnstile.rt keeps.

use Rattle.std.proofs.Common.{◌≡◌, ◌+◌, ◌≤◌, [], length}
use Rattle.std.specs.Prelude.{sum_by, All}
use Rattle.ls_live.proofs.turnstile.Turnstile.join_all.Given as goal

abbrev pub invariant-loop-seat : goal.invariant-loop-seat
invariant-loop-seat l = record {
  id : l.all.table_id ≡ l.initial.all.table_id;
  out : l.all.me.0.out ≡ 0;
  bare : l.all.me.1 ≡ [];
  parts : l.all.me.0.parts ≡ l.initial.all.me.0.parts + length l.yielded;
  steps : l.all.me.0.steps ≡ l.initial.all.me.0.steps + sum_by (λ c. c.steps) l.yielded;
  seen : l.initial.all.me.0.seen ≤ l.all.me.0.seen;
  each : All (λ c. c.seen ≤ l.all.me.0.seen) l.yielded;
}
