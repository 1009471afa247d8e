-- Why `Thread::throw` in src/thread.rt keeps its clause `thrown`.

use Rattle.std.proofs.Common.{◌≡◌, ◌<◌, List, length, ◌∷◌, Option, None, Some, MatchOption, IsTrue, Bool, false, true}
use Rattle.std.proofs.Common.{refl, subst}
use Rattle.std.proofs.lemmas.Bool.{both_ways}
use Rattle.ls_code.specs.Frame.{Frame}
use Rattle.ls_code.specs.Throws.{thrown}
use Rattle.ls_machine_threads.specs.Memory.{keeping_thread, KeptThread}
use Rattle.ls_code.specs.Thread.{with_frames}
use Rattle.ls_machine_threads.proofs.Frames.{frames_split}
use Rattle.ls_machine_threads.proofs.Rooms.{innermost, left_alone}
use Rattle.ls_machine_moves.specs.Frames.{Kept, keeping}
use Rattle.ls_machine_threads.proofs.thread.Thread.throw.Goals as goal

when_none : {X : Type 0} (o : Option X) (P : Type 0) (Q : X → Type 0) → o ≡ None → P → MatchOption o P Q
when_none o P Q e p = rw e p

pub returns-in-None-clause-thrown : goal.returns-in-None-clause-thrown
returns-in-None-clause-thrown c =
    let n = rw (
      c.deref.ensures.value,
      frames_split c.self.inside.frames.items c.self.inside.inner
          c.self.invariant.0.inside,
    ) at c.in-None.ensures.none c.args.kind in
    let F : KeptThread → Type 0 = λ k. MatchOption (thrown c.args.rows.now c.args.kind (k.thread.top ∷ k.thread.below))
    (◌≡◌ {A = _} false false) (λ (r : Frame × List Frame). IsTrue false ×
    (k ≡ keeping_thread k (with_frames k.thread r.0 r.1))) in
    subst F c.self.view_is (when_none _ _ _ n refl)

-- what catches keeps its memory
keeps : (o : Option Frame) (b : Bool) (old new : Kept) →
    MatchOption o (b ≡ false) (λ f. IsTrue b × (new ≡ keeping old f)) →
    b ≡ true →
    (f : Frame) × (new ≡ keeping old f)
keeps None b old new m t = absurd (both_ways b m t)
keeps (Some f) b old new m t = (f, m.1)

pub invariant_of-self : goal.invariant_of-self
invariant_of-self c =
    let s = c.self.inside in
    let k = keeps _ c.catch.result c.index_mut-frame.result.now c.catch.new.self c.catch.ensures.caught c.if-catch.true
    in
    let there : c.in-Some.at < length s.frames.items = rw c.deref.ensures.value at c.in-Some.ensures.within.1 in (
      innermost s.frames.items s.inner c.in-Some.at s.locals_room s.operands_room c.index_mut-frame.result.now
          c.catch.new.self k.0 c.self.invariant.0 c.in-Some.ensures.within.0 there c.index_mut-frame.ensures.value k.1,
      c.self.invariant.1,
    )

pub invariant_of-self-else-catch : goal.invariant_of-self-else-catch
invariant_of-self-else-catch c = rw (
  c.catch.ensures.stays c.if-catch.false,
  left_alone c.self.inside.frames.items c.in-Some.at c.index_mut-frame.result.now c.index_mut-frame.ensures.value,
)
    c.self.invariant
