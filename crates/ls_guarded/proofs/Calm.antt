-- Programs whose calls are guarded are linearizable.
use Rattle.ls_guarded.specs.declared.guard.Guard.TheVariants.{Monitor, Field, No}
use Rattle.ls_guarded.specs.Guards.{GuardedAreCalm}
use Rattle.ls_one_at_a_time.proofs.Locks.{all_locked, none_wait_locked}
use Rattle.ls_one_at_a_time.proofs.Monitors.{all_one_at_a_time, none_wait_one_at_a_time}

-- where a guard is told, a program is calm
pub calm : GuardedAreCalm
calm Monitor file program some x = record {
  linearizable = all_one_at_a_time file program x;
  waits = none_wait_one_at_a_time file program x;
}
calm (Field f) file program some x = record {
  linearizable = all_locked file program x.runs;
  waits = none_wait_locked file program x.runs;
}
calm (No reason) file program some x = absurd some
