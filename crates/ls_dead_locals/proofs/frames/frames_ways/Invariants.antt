-- What the loop of `frames_ways` in src/frames.rt keeps: the ends by the frames before this one.

use Rattle.std.proofs.Common.{◌≡◌, take}
use Rattle.ls_source_pending.specs.Seen.{frames_of}
use Rattle.ls_dead_locals.specs.Around.{frames_ways}
use Rattle.ls_dead_locals.proofs.frames.frames_ways.Given as goal

abbrev pub invariant-loop-frame : goal.invariant-loop-frame
invariant-loop-frame l = l.ways ≡ frames_ways l.slot (frames_of (take l.frame-index l.frames))
