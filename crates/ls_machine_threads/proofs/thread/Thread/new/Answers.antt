-- Why `Thread::new` in src/thread.rt keeps its contract.

use Rattle.std.proofs.Common.{◌≡◌, ◌++◌, ◌∷◌, [], List, length, drop, get_or, refl, arith}
use Rattle.std.proofs.lemmas.List.{get_or_push, drop_all, length_push}
use Rattle.ls_machine_moves.specs.Frames.{Kept, no_frame}
use Rattle.ls_machine_threads.proofs.thread.Thread.new.Goals as goal

lowest : (fs : List Kept) (f : Kept) → length fs ≡ 64 → get_or (fs ++ f ∷ []) 64 no_frame ≡ f
lowest fs f h = get_or_push fs f no_frame 64 h

nothing : (fs : List Kept) (f : Kept) → length fs ≡ 64 → drop 65 (fs ++ f ∷ []) ≡ []
nothing fs f h = let e = length_push fs f in drop_all 65 (fs ++ f ∷ []) (omega (arith, e))

pub returns : goal.returns
returns c =
    let a = lowest c.in_ok-frames.frames.items c.in_ok-new.field-0 c.in_ok-frames.ensures.count in
    let b = nothing c.in_ok-frames.frames.items c.in_ok-new.field-0 c.in_ok-frames.ensures.count in
    rw (c.in_ok-push.ensures.items, a, b, c.in_ok-new.ensures, c.place.ensures, c.need.ensures, c.in_ok-calls.ensures)
    refl
