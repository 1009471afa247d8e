-- Why `Thread::leave_with` in src/thread.rt keeps its contract.

use Rattle.std.proofs.Common.{◌+◌, ◌<◌, length, arith}
use Rattle.ls_machine_threads.proofs.Rooms.{innermost, left_alone}
use Rattle.ls_machine_threads.proofs.thread.Thread.leave_with.Goals as goal

pub invariant_of-self : goal.invariant_of-self
invariant_of-self c = rw (left_alone c.self.inside.frames.items (c.self.inside.inner + 1) c.index_mut-frame.result.now
    c.index_mut-frame.ensures.value) c.self.invariant

pub invariant_of-self-2 : goal.invariant_of-self-2
invariant_of-self-2 c =
    let s = c.self.inside in
    let h = c.self.invariant.0 in
    let there : s.inner + 1 < length s.frames.items = omega (
      arith,
      h.inside,
      h.deep,
      c.if-self-eq-MOST_CALLED.false,
    ) in (
      innermost s.frames.items s.inner (s.inner + 1) s.locals_room s.operands_room c.index_mut-frame.result.now
          c.push.new.self _ h (omega arith) there c.index_mut-frame.ensures.value c.push.ensures,
      c.self.invariant.1,
    )
