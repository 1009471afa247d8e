-- What the loop `thread` of `note_fates` in src/noting.rt keeps.

use Rattle.std.proofs.Common.{ℕ}
use Rattle.ls_checked.specs.CheckedTree.{File}
use Rattle.ls_checked.specs.PlainProgram.{plain_program}
use Rattle.ls_serial_faults.specs.Noted.{AreAllNoted}
use Rattle.ls_serial_faults.proofs.noting.note_fates.Given as goal

abbrev pub invariant-loop-thread : goal.invariant-loop-thread
invariant-loop-thread l = record {
  noted : (file : File) (bound : ℕ) →
      AreAllNoted file (plain_program l.program) bound l.way l.fates l.thread l.initial.found l.found;
}
