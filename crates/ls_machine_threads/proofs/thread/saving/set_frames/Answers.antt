-- Why `set_frames` in src/thread/saving.rt keeps its clause `rooms` and its loop `i`.

use Rattle.std.proofs.Common.{◌≡◌, ◌⊎◌, ℕ, ◌+◌, ◌<◌, ◌^◌, List, length, set, get_or, ap, sym, subst, ◌∙◌, arith}
use Rattle.std.proofs.lemmas.List.{get_or_default, length-set}
use Rattle.ls_code.specs.Frame.{Frame}
use Rattle.ls_machine_moves.specs.Frames.{Kept, no_frame}
use Rattle.ls_machine_threads.specs.Memory.{HaveRooms}
use Rattle.ls_machine_threads.proofs.Rooms.{left_alone, rooms_stay}
use Rattle.ls_machine_threads.proofs.Saving.{goes_on, written_past}
use Rattle.ls_machine_threads.proofs.thread.saving.set_frames.Goals as goal

pub loop-i-preserved : goal.loop-i-preserved
loop-i-preserved c =
    let ks : List Kept = c.loop-i.frames in
    let at : ℕ = c.args.from + c.loop-i.i in
    let there : at < length ks = omega (arith, c.loop-i.invariant.count, c.requires, c.loop-i-test.true) in
    let old : Kept = get_or ks at c.index-frames-from.result in
    let was : old ≡ get_or ks at old = get_or_default ks at c.index-frames-from.result old there in
    let is = c.set_as.ensures.same c.if-not-set_as.false in
    let frame : c.set_as.new.self.frame ≡ (get_or c.args.others.now c.loop-i.i no_frame).frame =
    ap (λ (k : Kept). k.frame) is ∙ ap (λ (k : Kept). k.frame)
    (c.index-others-i.is ∙ get_or_default c.args.others.now c.loop-i.i c.index-others-i.result no_frame
    (omega arith)) in
    record {
      count = length-set ks at c.set_as.new.self ∙ c.loop-i.invariant.count;
      rooms = λ locals operands h. rooms_stay ks at locals operands old c.set_as.new.self c.index-others-i.result.frame
          (c.loop-i.invariant.rooms locals operands h) there was is;
      same = written_past (λ (k : Kept). k.frame) (λ (k : Kept). k.frame) ks c.args.from c.args.others.now c.loop-i.i
          c.set_as.new.self no_frame there (omega arith) c.loop-i.invariant.same frame;
      callers = goes_on ks c.args.from c.loop-i.i c.set_as.new.self there
          (subst (λ (f : Frame). (c.loop-i.i ≡ 0) ⊎ (f.counter + 1 < 2 ^ 64)) (sym (ap (λ (k : Kept). k.frame) is))
          (c.is_stuck.ensures c.if-is_stuck.false)) c.loop-i.invariant.callers;
    }

pub returns-then-not-set_as-clause-rooms : goal.returns-then-not-set_as-clause-rooms
returns-then-not-set_as-clause-rooms c = λ locals operands h.
    let ks : List Kept = c.loop-i.frames in
    let at : ℕ = c.args.from + c.loop-i.i in
    let there : at < length ks = omega (arith, c.loop-i.invariant.count, c.requires, c.loop-i-test.true) in
    let old : Kept = get_or ks at c.index-frames-from.result in
    let was : old ≡ get_or ks at old = get_or_default ks at c.index-frames-from.result old there in
    let alone : set ks at c.set_as.new.self ≡ ks = ap (set ks at) (c.set_as.ensures.stays c.if-not-set_as.true) ∙
    left_alone ks at old was in
    subst (HaveRooms locals operands) (sym alone) (c.loop-i.invariant.rooms locals operands h)
