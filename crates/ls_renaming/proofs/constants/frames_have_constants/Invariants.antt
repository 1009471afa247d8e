-- What the loop `frame` of `frames_have_constants` in src/constants.rt keeps.

use Rattle.std.proofs.Common.{drop, map}
use Rattle.ls_source_pending.specs.Seen.{frame_of}
use Rattle.ls_works.specs.Frames.{FramesHaveConstants}
use Rattle.ls_renaming.proofs.constants.frames_have_constants.Given as goal

abbrev pub invariant-loop-frame : goal.invariant-loop-frame
invariant-loop-frame l =
    FramesHaveConstants (map frame_of (drop l.frame-index l.frames)) → FramesHaveConstants (map frame_of l.frames)
