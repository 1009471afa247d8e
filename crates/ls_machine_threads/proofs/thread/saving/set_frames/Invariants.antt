-- What the loop `i` of `set_frames` in src/thread/saving.rt keeps.

use Rattle.std.proofs.Common.{◌≡◌, ℕ, ◌+◌, ◌<◌, ◌^◌, map, take, drop, length, get_or}
use Rattle.ls_machine_moves.specs.Frames.{no_frame}
use Rattle.ls_machine_threads.specs.Memory.{HaveRooms}
use Rattle.ls_machine_threads.proofs.thread.saving.set_frames.Given as goal

abbrev pub invariant-loop-i : goal.invariant-loop-i
invariant-loop-i l = record {
  count : length l.frames ≡ length l.initial.frames;
  rooms : (locals operands : ℕ) → HaveRooms locals operands l.initial.frames → HaveRooms locals operands l.frames;
  same : map (λ k. k.frame) (take l.i (drop l.from l.frames)) ≡ map (λ k. k.frame) (take l.i l.others);
  callers : (j : ℕ) → l.from < j → j < l.from + l.i → (get_or l.frames j no_frame).frame.counter + 1 < 2 ^ 64;
}
