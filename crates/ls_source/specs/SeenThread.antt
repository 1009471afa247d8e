-- What the code keeps and says of a thread, in the terms of the definitions.
use Rattle.std.specs.Prelude.{◌∷◌, [], drop, map}
use Rattle.ls_checked.specs.PlainProgram.{plain_call}
use Rattle.ls_meaning.specs.Methods.{depth_limit}
use Rattle.ls_meaning.specs.Threads.{Next, Goes, Ended, Trapped}
use Rattle.ls_source_pending.specs.Pending.{State, Invokes}
use Rattle.ls_source_pending.specs.ExpressionMoves.{at}
use Rattle.ls_source_pending.specs.SeenPending.{state_of}
use Rattle.ls_source.specs.Calls as calls
use Rattle.ls_source.specs.declared.next.Next.{Next as SourceNext}
use Rattle.ls_source.specs.declared.next.Next.TheVariants.{Goes as DoesGo, Ended as HasEnded, Trapped as HasTrapped}
use Rattle.ls_source.specs.declared.thread.Bottom.{Bottom}
use Rattle.ls_source.specs.declared.thread.Bottom.TheVariants as bottoms
use Rattle.ls_source.specs.declared.thread.Phase.{Phase}
use Rattle.ls_source.specs.declared.thread.Phase.TheVariants as phases
use Rattle.ls_source.specs.declared.thread.Thread.{Thread}

abbrev pub plain_next : SourceNext → Next
plain_next (DoesGo action sort) = Goes action sort
plain_next HasEnded = Ended
plain_next HasTrapped = Trapped

abbrev pub bottom_of : Bottom → calls.Bottom
bottom_of (bottoms.Making name o) = calls.OfMaking name o
bottom_of (bottoms.Calling m) = calls.OfCalling m

-- if a body is still to begin, it counts as its work
abbrev pub phase_of : Phase → State → calls.Phase
phase_of phases.Starts work = calls.Starts
phase_of (phases.Announces c) work = calls.Announces (plain_call c.now)
phase_of (phases.Makes name class values) work = calls.Makes name class values.now
phase_of (phases.Fetches name m values) work = calls.Fetches name m values.now
phase_of (phases.Begins b m o values) work = calls.Works (bottom_of b)
    (at (Invokes m (o ∷ values.now)) [] [] depth_limit)
phase_of (phases.Works b) work = calls.Works (bottom_of b) work
phase_of (phases.Names name o) work = calls.Names name o
phase_of (phases.ReturnsWith v) work = calls.ReturnsWith v
phase_of (phases.TrapsWith kind) work = calls.TrapsWith kind
phase_of phases.Trapped work = calls.IsTrapped

abbrev pub thread_of : Thread → calls.Thread
thread_of t = record {
  number = t.begun;
  left = drop t.begun (map plain_call t.calls.now);
  phase = phase_of t.phase (state_of t.work);
}
