-- What the loop `thread` of `follow_threads` in src/searching.rt keeps.

use Rattle.std.proofs.Common.{◌≡◌, ℕ, true, false, Contains, Some, slice_get}
use Rattle.ls_checked.specs.Plain.{plain_file}
use Rattle.ls_checked.specs.PlainProgram.{plain_program}
use Rattle.ls_meaning.specs.Runs.{source_history}
use Rattle.ls_search_laws.specs.Stepping.{ActAll}
use Rattle.ls_serial.specs.Serial.{IsSerial}
use Rattle.ls_serial_search.specs.Open.{HasLongCall}
use Rattle.ls_serial_search.specs.Parked.{AreParked}
use Rattle.ls_serial_search.specs.Told.{AreMore}
use Rattle.ls_serial_search.specs.Tree.{IsTree}
use Rattle.ls_serial_search.proofs.Gone.{AreFollowed}
use Rattle.ls_serial_search.proofs.searching.follow_threads.Given as goal

abbrev pub invariant-loop-thread : goal.invariant-loop-thread
invariant-loop-thread l = record {
  more : Contains l.initial.known.schedules.items l.schedule →
      AreMore (plain_file l.task.file.now) (plain_program l.task.program.now) l.initial.known.schedules.items
      l.known.schedules.items;
  followed : l.all ≡ true → Contains l.initial.known.schedules.items l.schedule →
      AreFollowed (plain_file l.task.file.now) (plain_program l.task.program.now) l.known.schedules.items l.schedule
      l.thread;
  long : l.all ≡ false →
      IsSerial (source_history (plain_file l.task.file.now) (plain_program l.task.program.now) l.schedule) →
      ActAll (plain_file l.task.file.now) (plain_program l.task.program.now) l.schedule →
      HasLongCall (plain_file l.task.file.now) (plain_program l.task.program.now) l.task.most_steps;
  tree : (place : ℕ) → slice_get l.initial.known.schedules.items place ≡ Some l.schedule →
      IsTree (plain_file l.task.file.now) (plain_program l.task.program.now) l.initial.known.schedules.items place 0 →
      IsTree (plain_file l.task.file.now) (plain_program l.task.program.now) l.known.schedules.items place l.thread ×
      (slice_get l.known.schedules.items place ≡ Some l.schedule);
  parked : AreParked (plain_file l.task.file.now) (plain_program l.task.program.now) l.initial.known.schedules.items
      l.initial.known.runs.items →
      AreParked (plain_file l.task.file.now) (plain_program l.task.program.now) l.known.schedules.items
      l.known.runs.items;
}
