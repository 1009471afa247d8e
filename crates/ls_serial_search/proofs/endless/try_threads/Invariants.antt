-- What the loop `thread` of `try_threads` in src/endless.rt keeps.

use Rattle.std.proofs.Common.{◌≡◌, true, false}
use Rattle.ls_checked.specs.Plain.{plain_file}
use Rattle.ls_checked.specs.PlainProgram.{plain_program}
use Rattle.ls_meaning.specs.Runs.{source_history}
use Rattle.ls_serial.specs.Serial.{IsSerial}
use Rattle.ls_search_laws.specs.Stepping.{ActAll}
use Rattle.ls_serial_search.specs.Open.{HasLongCall}
use Rattle.ls_serial_search.specs.Histories.{lists_of}
use Rattle.ls_serial_search.specs.Endless.{AreEndlessRuns, HaveTried}
use Rattle.ls_serial_search.proofs.NeverEnding.{AreKept}
use Rattle.ls_serial_search.proofs.endless.try_threads.Given as goal

abbrev pub invariant-loop-thread : goal.invariant-loop-thread
invariant-loop-thread l = record {
  endless : IsSerial (source_history (plain_file l.task.file.now) (plain_program l.task.program.now) l.schedule) →
      AreEndlessRuns (plain_file l.task.file.now) (plain_program l.task.program.now) (lists_of l.fn.runs.items) →
      AreEndlessRuns (plain_file l.task.file.now) (plain_program l.task.program.now) (lists_of l.runs.items);
  kept : AreKept (lists_of l.fn.runs.items) (lists_of l.runs.items);
  why : l.all ≡ false →
      IsSerial (source_history (plain_file l.task.file.now) (plain_program l.task.program.now) l.schedule) →
      ActAll (plain_file l.task.file.now) (plain_program l.task.program.now) l.schedule →
      HasLongCall (plain_file l.task.file.now) (plain_program l.task.program.now) l.task.most_steps;
  tried : l.all ≡ true →
      HaveTried (plain_file l.task.file.now) (plain_program l.task.program.now) (lists_of l.runs.items) l.schedule
      l.thread;
}
