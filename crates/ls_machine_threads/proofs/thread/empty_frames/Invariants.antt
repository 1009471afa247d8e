-- What `empty_frames` in src/thread.rt keeps.

use Rattle.std.proofs.Common.{◌≡◌, length}
use Rattle.ls_machine_threads.specs.Memory.{HaveRooms}
use Rattle.ls_machine_threads.proofs.thread.empty_frames.Given as goal

abbrev pub invariant-loop : goal.invariant-loop
invariant-loop l = record {
  count : length l.frames.items ≡ l.counter;
  rooms : HaveRooms l.locals_room l.operands_room l.frames.items;
}
