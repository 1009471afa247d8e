-- The ends of the part in the first frames of a stack.
use Rattle.std.proofs.Common.{◌≡◌, ℕ, List, [], ◌∷◌, ◌++◌, map, reverse, ap, ◌∙◌}
use Rattle.std.proofs.lemmas.List.{map-append, reverse-append}
use Rattle.ls_source_pending.specs.declared.work.Frame.{Frame}
use Rattle.ls_source_pending.specs.Seen.{frame_of, frames_of}
use Rattle.ls_dead_locals.specs.Around.{frame_ways, frames_ways}

-- one frame more, in it
pub one_more : (n : ℕ) (fs : List Frame) (f : Frame) →
    frames_ways n (frames_of (fs ++ f ∷ [])) ≡ frame_ways n (frame_of f) (frames_ways n (frames_of fs))
unfolding frames_of
one_more n fs f = ap (frames_ways n)
    (ap reverse (map-append frame_of fs (f ∷ [])) ∙ reverse-append (map frame_of fs) (frame_of f ∷ []))
