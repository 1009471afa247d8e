-- Why `Thread::set_as` in src/thread/saving.rt keeps its contract.

use Rattle.std.proofs.Common.{◌-◌, ◌∙◌, length, refl, ap, sym, subst, arith}
use Rattle.std.proofs.lemmas.List.{with_items_is}
use Rattle.ls_machine_threads.specs.Memory.{HaveRooms}
use Rattle.ls_machine_threads.proofs.Saving.{frames_set, lowest_left}
use Rattle.ls_machine_threads.proofs.thread.Thread.set_as.Goals as goal

pub invariant_of-self : goal.invariant_of-self
invariant_of-self c =
    let s = c.self.inside in
    let was = c.deref_mut.ensures.value in
    let count = c.set_frames.ensures.count ∙ ap length was in
    let items = with_items_is s.frames c.set_frames.new.frames (omega (arith, count, s.frames.ok.0)) in
    let rooms : HaveRooms s.locals_room s.operands_room s.frames.items →
    HaveRooms s.locals_room s.operands_room c.set_frames.new.frames = λ h.
    c.set_frames.ensures.rooms s.locals_room s.operands_room
    (subst (HaveRooms s.locals_room s.operands_room) (sym was) h) in
    rw items (
      lowest_left s.frames.items c.set_frames.new.frames s.inner 64 s.locals_room s.operands_room
          c.self.invariant.0 count rooms refl,
      c.self.invariant.1,
    )

pub invariant_of-self-2 : goal.invariant_of-self-2
invariant_of-self-2 c =
    let s = c.self.inside in
    let was = c.deref_mut.ensures.value in
    let count = c.set_frames.ensures.count ∙ ap length was in
    let items = with_items_is s.frames c.set_frames.new.frames (omega (arith, count, s.frames.ok.0)) in
    let rooms : HaveRooms s.locals_room s.operands_room s.frames.items →
    HaveRooms s.locals_room s.operands_room c.set_frames.new.frames = λ h.
    c.set_frames.ensures.rooms s.locals_room s.operands_room
    (subst (HaveRooms s.locals_room s.operands_room) (sym was) h) in
    let some = c.if-count-eq0.false in
    let deep = c.self.invariant.0.deep in
    let calls = c.are_calls.ensures c.if-not-are_calls.false in
    rw items (
      frames_set s.frames.items c.set_frames.new.frames s.inner (65 - c.len-count.result) s.locals_room s.operands_room
          c.self.invariant.0 count rooms (omega (arith, some, deep))
          (c.set_frames.ensures.callers c.if-not-set_frames.false),
      omega (arith, calls, c.len.ensures),
    )
