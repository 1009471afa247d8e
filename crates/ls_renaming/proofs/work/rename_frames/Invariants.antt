-- What the loop `frame` of `rename_frames` in src/work.rt keeps.

use Rattle.std.proofs.Common.{◌≡◌, take}
use Rattle.std.specs.Prelude.{map}
use Rattle.ls_source_pending.specs.Seen.{frame_of}
use Rattle.ls_works.specs.Frames.{renamed_frame}
use Rattle.ls_renaming.specs.Seen.{names_of}
use Rattle.ls_renaming.proofs.work.rename_frames.Given as goal

abbrev pub invariant-loop-frame : goal.invariant-loop-frame
invariant-loop-frame l =
    map frame_of l.renamed.items ≡ map (renamed_frame (names_of l.names)) (map frame_of (take l.frame-index l.frames))
