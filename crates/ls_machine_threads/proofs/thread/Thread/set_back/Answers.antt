-- Why `Thread::set_back` in src/thread.rt keeps its contract.

use Rattle.std.proofs.Common.{◌≡◌, ◌<◌, [], length, drop, set, get_or, refl, ◌∙◌, subst, arith, lit<, false}
use Rattle.std.proofs.lemmas.List.{drop-set-lt, drop_all, get_or-set_same}
use Rattle.std.specs.Vec.{with_item}
use Rattle.ls_code.specs.declared.step.Mode.TheVariants.{Running}
use Rattle.ls_machine_threads.specs.Memory.{back_at, KeptThread}
use Rattle.ls_machine_moves.specs.Frames.{no_frame}
use Rattle.ls_machine_threads.specs.contracts.thread.Thread.{the_view}
use Rattle.ls_machine_threads.proofs.thread.Thread.set_back.Goals as goal

pub returns : goal.returns
returns c =
    let frames = c.self.inside.frames.items in
    let f = c.set_back.new.self in
    let deep = c.self.invariant.0.deep in
    let inside : 64 < length frames = omega (arith, deep) in
    let a : get_or (set frames 64 f) 64 no_frame ≡ f = get_or-set_same frames 64 f no_frame inside in
    let b : drop 65 (set frames 64 f) ≡ [] = drop-set-lt 65 frames 64 f (lit< tt) ∙
    drop_all 65 frames (omega (arith, deep)) in
    subst (λ (k : KeptThread).
    the_view (record {
      frames = with_item c.self.inside.frames 64 f;
      inner = 64;
      mode = Running;
      calls = c.self.inside.calls;
      ended = 0;
      pending = false;
      locals_room = c.self.inside.locals_room;
      operands_room = c.self.inside.operands_room;
    }) ≡ back_at c.args.start.now k) c.self.view_is
    (rw (a, b, c.set_back.ensures, c.place.ensures, c.need.ensures) refl)
