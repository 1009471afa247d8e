-- What the loop `i` of `are_same_frames` in src/work.rt keeps.

use Rattle.std.proofs.Common.{◌≡◌, drop}
use Rattle.std.specs.Prelude.{map}
use Rattle.ls_source_pending.specs.Seen.{frame_of}
use Rattle.ls_works.proofs.work.are_same_frames.Given as goal

abbrev pub invariant-loop-i : goal.invariant-loop-i
invariant-loop-i l =
    map frame_of (drop l.i l.frames) ≡ map frame_of (drop l.i l.others) →
    map frame_of l.frames ≡ map frame_of l.others
