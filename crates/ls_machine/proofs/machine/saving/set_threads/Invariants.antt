-- What the loop `i` of `set_threads` in src/machine/saving.rt keeps.

use Rattle.std.proofs.Common.{◌≡◌, map, take, length}
use Rattle.ls_machine.proofs.machine.saving.set_threads.Given as goal

abbrev pub invariant-loop-i : goal.invariant-loop-i
invariant-loop-i l = record {
  count : length l.threads ≡ length l.initial.threads;
  same : map (λ t. t.thread) (take l.i l.threads) ≡ map (λ t. t.value) (take l.i l.saved);
  calls : map (λ t. t.thread.calls) l.threads ≡ map (λ t. t.thread.calls) l.initial.threads;
  locals : map (λ t. t.locals_room) l.threads ≡ map (λ t. t.locals_room) l.initial.threads;
  operands : map (λ t. t.operands_room) l.threads ≡ map (λ t. t.operands_room) l.initial.threads;
}
