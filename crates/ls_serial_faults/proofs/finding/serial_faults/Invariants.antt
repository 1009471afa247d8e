-- What the loop `number` of `serial_faults` in src/finding.rt keeps.

use Rattle.std.proofs.Common.{◌≡◌, false, true}
use Rattle.ls_checked.specs.CheckedTree.{File}
use Rattle.ls_checked.specs.CheckedProgram.{Program}
use Rattle.ls_checked.specs.Plain.{plain_file}
use Rattle.ls_checked.specs.PlainProgram.{plain_program}
use Rattle.ls_automaton.specs.States.{ways_of}
use Rattle.ls_serial_faults.specs.Faults.{AreFaults, MeetsBound}
use Rattle.ls_serial_faults.proofs.Adding.{AreNotedTo}
use Rattle.ls_serial_faults.proofs.finding.serial_faults.Given as goal

abbrev pub invariant-loop-number : goal.invariant-loop-number
invariant-loop-number l =
    let file : File = plain_file l.file in
    let program : Program = plain_program l.program in
    record {
      faults : AreFaults file program l.found;
      noted : AreNotedTo file program (ways_of l.states) l.found l.number;
      known : l.found.complete ≡ true → (l.states.many ≡ false) × (l.states.goes_on ≡ false);
      why : l.found.complete ≡ false → MeetsBound file program l.bounds;
    }
