-- A stack's frames as plain data.
use Rattle.std.proofs.Common.{◌≡◌, true, List, [], ◌∷◌, ◌++◌, map, reverse, refl, ap, ◌∙◌}
use Rattle.ls_events.specs.declared.value.Value.{Value}
use Rattle.ls_meaning.specs.declared.completion.Completion.{Completion}
use Rattle.std.proofs.lemmas.List.{map-append, reverse-append}
use Rattle.ls_source_pending.specs.declared.work.Frame.{Frame}
use Rattle.ls_source_pending.specs.Pending as pending
use Rattle.ls_source_pending.specs.Seen.{frame_of, frames_of}
use Rattle.ls_source_pending.specs.Filled.{is_some}
use Rattle.ls_source_pending.specs.Moves.{is_left}

-- one frame more
pub one_more : (fs : List Frame) (f : Frame) → frames_of (fs ++ f ∷ []) ≡ frame_of f ∷ frames_of fs
unfolding frames_of
one_more fs f = ap reverse (map-append frame_of fs (f ∷ [])) ∙ reverse-append (map frame_of fs) (frame_of f ∷ [])

-- no frames
pub none_left : frames_of [] ≡ []
unfolding frames_of
none_left = refl

gives_more : (v : Value) (xs : List pending.Frame) (y : pending.Frame) → is_left (pending.Gives v) (xs ++ y ∷ []) ≡ true
gives_more v [] y = refl
gives_more v (x ∷ xs) y = refl

ends_more : (c : Completion Value) (xs : List pending.Frame) (y : pending.Frame) →
    is_left (pending.Ends c) (xs ++ y ∷ []) ≡ true
ends_more c [] y = refl
ends_more c (x ∷ xs) y = refl

-- a value is taken by a frame, if there is one
pub gives_left : (v : Value) (fs : List Frame) → is_left (pending.Gives v) (frames_of fs) ≡ is_some fs
unfolding frames_of
gives_left v [] = refl
gives_left v (f ∷ fs) = ap (is_left (pending.Gives v)) (reverse-append (frame_of f ∷ []) (map frame_of fs)) ∙
    gives_more v (reverse (map frame_of fs)) (frame_of f)

-- a completion is taken by a frame, if there is one
pub ends_left : (c : Completion Value) (fs : List Frame) → is_left (pending.Ends c) (frames_of fs) ≡ is_some fs
unfolding frames_of
ends_left c [] = refl
ends_left c (f ∷ fs) = ap (is_left (pending.Ends c)) (reverse-append (frame_of f ∷ []) (map frame_of fs)) ∙
    ends_more c (reverse (map frame_of fs)) (frame_of f)
