-- What the loop `frame` of `copy_frames` in src/copies.rt keeps.

use Rattle.std.proofs.Common.{◌≡◌, take}
use Rattle.std.specs.Prelude.{map}
use Rattle.ls_source_pending.specs.Seen.{frame_of}
use Rattle.ls_works.proofs.copies.copy_frames.Given as goal

abbrev pub invariant-loop-frame : goal.invariant-loop-frame
invariant-loop-frame l = map frame_of l.copies.items ≡ map frame_of (take l.frame-index l.frames)
