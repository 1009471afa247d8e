-- Why `Thread::saved` in src/thread/saving.rt keeps its contract.

use Rattle.std.proofs.Common.{◌≡◌, ◌+◌, ◌-◌, ◌∷◌, ◌∙◌, List, length, take, drop, map, get_or, refl, ap, subst, arith}
use Rattle.std.proofs.lemmas.List.{length-drop, take_all}
use Rattle.ls_machine_moves.specs.Frames.{Kept, no_frame}
use Rattle.ls_machine_threads.specs.Memory.{KeptThread}
use Rattle.ls_machine_threads.specs.contracts.thread.saving.SavedThread.{the_view}
use Rattle.ls_machine_threads.proofs.Frames.{frames_split}
use Rattle.ls_machine_threads.proofs.Saving.{top_and_below}
use Rattle.ls_machine_threads.proofs.thread.Thread.saved.Goals as goal

pub returns : goal.returns
returns c =
    let s = c.self.inside in
    let ks = s.frames.items in
    let i = s.inner in
    let frame = λ (k : Kept). k.frame in
    let l : List Kept = c.deref.result.now in
    let whole : take (length l - i) (drop i l) ≡ drop i l = take_all (length l - i) (drop i l)
    (omega (arith, length-drop i l)) in
    let is : map frame c.in_ok-frames.frames.items ≡ (get_or ks i no_frame).frame ∷ map frame (drop (i + 1) ks) =
    c.in_ok-frames.ensures ∙ ap (map frame) whole ∙ ap (λ (l : List Kept). map frame (drop i l)) c.deref.ensures.value ∙
    frames_split ks i c.self.invariant.0.inside in
    let parts = top_and_below c.in_ok-frames.frames.items _ _ is in
    subst (λ (k : KeptThread).
    the_view (record {
      frames = c.in_ok-frames.frames;
      mode = s.mode;
      calls = c.in_ok-calls.calls;
      ended = s.ended;
      pending = s.pending;
    }) ≡ k.thread) c.self.view_is
    (rw (parts.0, parts.1, c.in_ok-calls.ensures, c.as_slice.ensures.value) refl)
