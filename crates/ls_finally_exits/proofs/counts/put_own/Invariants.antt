-- What `put_own` in src/counts.rt keeps.

use Rattle.std.proofs.Common.{◌≡◌, ◌+◌, vec_len}
use Rattle.ls_finally_exits.proofs.counts.put_own.Given as goal

abbrev pub invariant-loop : goal.invariant-loop
invariant-loop l = vec_len l.out ≡ vec_len l.initial.out + l.counter
