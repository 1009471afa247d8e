-- What the loop `i` of `set_all_back` in src/machine.rt keeps.

use Rattle.std.proofs.Common.{◌≡◌, ◌≤◌, ◌++◌, drop, take}
use Rattle.std.specs.List.{All}
use Rattle.ls_machine.specs.Back.{all_back}
use Rattle.ls_machine.proofs.machine.set_all_back.Given as goal

abbrev pub invariant-loop-i : goal.invariant-loop-i
invariant-loop-i l = record {
  needs : All (λ t. All (λ s. s.need ≤ t.operands_room) l.starts) l.threads;
  back : take l.i l.threads ++ all_back (drop l.i l.starts) (drop l.i l.threads) ≡ all_back l.starts l.initial.threads;
}
