-- The pending work that the code keeps, as plain data.
use Rattle.ls_source_pending.specs.Pending.{State}
use Rattle.ls_source_pending.specs.declared.pending.Pending.{Pending}
use Rattle.ls_source_pending.specs.Seen.{control_of, frames_of}

abbrev pub state_of : Pending → State
state_of p = record {
  control = control_of p.control;
  frames = frames_of p.frames.items;
  locals = p.locals.items;
  depth = p.depth;
}
