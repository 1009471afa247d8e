-- Why `Thread::enter` in src/thread.rt keeps its clauses `after` and `flow` and what `enter_above` requires.

use Rattle.std.proofs.Common.{◌≡◌, ℕ, ◌+◌, ◌-◌, ◌==◌, ◌<◌, ◌≤◌, List, ◌∷◌, length, map, drop, set, get_or, Some, false}
use Rattle.std.proofs.Common.{true, slice_get, nat_lt, ap, sym, subst, refl, ◌∙◌, arith}
use Rattle.std.proofs.lemmas.Bool.{ne_eqb, lt-ltb}
use Rattle.std.proofs.lemmas.List.{get_or_read, get_or-set_same, get_or-set_other, drop-set, drop-set-lt, length-set}
use Rattle.std.proofs.lemmas.List.{length-map, length-drop, with_items_is}
use Rattle.std.specs.Vec.{with_items}
use Rattle.ls_code.specs.Calls.{Calls, enter_move, with_callee}
use Rattle.ls_code.specs.Thread.{Thread}
use Rattle.ls_code.specs.declared.code.Method.{Method}
use Rattle.ls_machine_threads.specs.Memory.{KeptThread, keeping_thread}
use Rattle.ls_machine_threads.specs.Threads.{call_flow, thread_after}
use Rattle.ls_machine_threads.specs.contracts.thread.Thread.{the_view}
use Rattle.ls_machine_moves.specs.Frames.{Kept, no_frame}
use Rattle.ls_machine_threads.specs.declared.flow.Entered.TheVariants as came
use Rattle.ls_machine_threads.proofs.Rooms.{one_above}
use Rattle.ls_machine_threads.proofs.thread.Thread.enter.Goals as goal

-- a method is entered where there is an object that isn't null, and room for a frame
enters : (m : Method) (t : Thread) (this : ℕ) →
    slice_get t.top.operands (m.arguments - 1) ≡ Some this →
    (this == 0) ≡ false →
    nat_lt (length t.below) 64 ≡ true →
    enter_move m t ≡ Calls (with_callee m t)
enters m t this read some deep = rw (enter_move, read, some, deep) refl

module _ (ks : List Kept) (i : ℕ) (above : 0 < i) where
  has_room : length ks ≡ 65 → nat_lt (length (map (λ (k : Kept). k.frame) (drop (i + 1) ks))) 64 ≡ true
  has_room deep =
      let count : length (map (λ (k : Kept). k.frame) (drop (i + 1) ks)) ≡ length ks - (i + 1) = length-map
      (drop (i + 1) ks) (λ k. k.frame) ∙ length-drop (i + 1) ks in
      lt-ltb _ 64 (omega (arith, count, deep))

  module _ (a b : Kept) (inside : i < length ks) where
    as_many : length (set (set ks (i - 1) a) i b) ≡ length ks
    as_many = length-set (set ks (i - 1) a) i b ∙ length-set ks (i - 1) a

    callee_on_top : get_or (set (set ks (i - 1) a) i b) (i - 1) no_frame ≡ a
    callee_on_top = get_or-set_other (set ks (i - 1) a) i (i - 1) b no_frame (omega arith) ∙
        get_or-set_same ks (i - 1) a no_frame (omega arith)

    caller_below : map (λ k. k.frame) (drop (i - 1 + 1) (set (set ks (i - 1) a) i b)) ≡ b.frame ∷
        map (λ k. k.frame) (drop (i + 1) ks)
    caller_below =
        let here : i - 1 + 1 ≡ i = omega arith in
        let same = length-set ks (i - 1) a in
        rw here (ap (map (λ (k : Kept). k.frame)) (drop-set (set ks (i - 1) a) i b (omega (arith, same)) ∙
        ap (λ ls. b ∷ ls) (drop-set-lt (i + 1) ks (i - 1) a (omega arith))))

pub returns-else-self-eq0-clause-after : goal.returns-else-self-eq0-clause-after
returns-else-self-eq0-clause-after c =
    let s = c.self.inside in
    let ks = s.frames.items in
    let i = s.inner in
    let above : 0 < i = omega (arith, c.if-self-eq0.false) in
    let inside = c.self.invariant.0.inside in
    let is = get_or_read ks i _ inside c.index-frame.ensures no_frame in
    let entered = enters c.args.method.now (the_view s).thread c.in-Some.this
    (rw (is, c.saturating_sub.ensures) at (sym c.in-Some.ensures)) (ne_eqb c.in-Some.this 0 c.if-this-eq0.false)
    (has_room ks i above c.self.invariant.0.deep) in
    let written = rw c.deref_mut.ensures.value at c.enter_above.ensures in
    let items = with_items_is s.frames c.enter_above.new.frames
    (omega (arith, ap length written ∙ as_many ks i above _ _ inside, s.frames.ok.0)) ∙ written in
    let P : KeptThread →
    Type 0 = λ k.
    the_view (record {
      frames = with_items s.frames c.enter_above.new.frames;
      inner = i - 1;
      mode = s.mode;
      calls = s.calls;
      ended = s.ended;
      pending = s.pending;
      locals_room = s.locals_room;
      operands_room = s.operands_room;
    }) ≡ keeping_thread k
    (thread_after k.thread (enter_move c.args.method.now k.thread)) in
    subst P c.self.view_is (rw (items, callee_on_top ks i above _ _ inside, caller_below ks i above _ _ inside, entered)
    refl)

pub returns-else-self-eq0-clause-flow : goal.returns-else-self-eq0-clause-flow
returns-else-self-eq0-clause-flow c =
    let ks = c.self.inside.frames.items in
    let i = c.self.inside.inner in
    let above : 0 < i = omega (arith, c.if-self-eq0.false) in
    let is = get_or_read ks i _ c.self.invariant.0.inside c.index-frame.ensures no_frame in
    let entered = enters c.args.method.now (the_view c.self.inside).thread c.in-Some.this
    (rw (is, c.saturating_sub.ensures) at (sym c.in-Some.ensures)) (ne_eqb c.in-Some.this 0 c.if-this-eq0.false)
    (has_room ks i above c.self.invariant.0.deep) in
    let P : KeptThread → Type 0 = λ k. came.Entered ≡ call_flow (enter_move c.args.method.now k.thread) in
    subst P c.self.view_is (rw entered refl)

pub enter_above-requires-clause-locals : goal.enter_above-requires-clause-locals
enter_above-requires-clause-locals c =
    let i = c.self.inside.inner in
    let within : i - 1 < length c.self.inside.frames.items = omega (arith, c.self.invariant.0.inside) in
    let room = c.self.invariant.0.rooms (i - 1) within in
    let enough : c.args.method.now.arguments + c.args.method.now.more ≤ c.self.inside.locals_room = rw
    (← c.self.view_is) at c.requires.locals in
    rw c.deref_mut.ensures.value (rw room.0 enough)

pub enter_above-requires-clause-need : goal.enter_above-requires-clause-need
enter_above-requires-clause-need c =
    let i = c.self.inside.inner in
    let within : i - 1 < length c.self.inside.frames.items = omega (arith, c.self.invariant.0.inside) in
    let room = c.self.invariant.0.rooms (i - 1) within in
    let enough : c.args.method.now.need ≤ c.self.inside.operands_room = rw (← c.self.view_is) at c.requires.need in
    rw c.deref_mut.ensures.value (rw room.1 enough)

pub invariant_of-self : goal.invariant_of-self
invariant_of-self c =
    let s = c.self.inside in
    let ks = s.frames.items in
    let i = s.inner in
    let above : 0 < i = omega (arith, c.if-self-eq0.false) in
    let inside = c.self.invariant.0.inside in
    let written = rw c.deref_mut.ensures.value at c.enter_above.ensures in
    let items = with_items_is s.frames c.enter_above.new.frames
    (omega (arith, ap length written ∙ as_many ks i above _ _ inside, s.frames.ok.0)) ∙ written in
    let place = rw (← c.self.view_is) at c.requires.place in
    rw items (one_above ks i s.locals_room s.operands_room _ _ c.self.invariant.0 above place, c.self.invariant.1)
