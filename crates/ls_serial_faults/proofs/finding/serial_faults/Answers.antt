-- Why `serial_faults` in src/finding.rt keeps its clause `all` and its loop `number`.

use Rattle.std.proofs.Common.{◌≡◌, ◌∙◌, ◌<◌, Some, ap, arith, false, inr, length, slice_get, subst, sym, true}
use Rattle.std.proofs.lemmas.List.{length-map}
use Rattle.ls_checked.specs.CheckedTree.{File}
use Rattle.ls_checked.specs.CheckedProgram.{Program}
use Rattle.ls_checked.specs.Plain.{plain_file}
use Rattle.ls_checked.specs.PlainProgram.{plain_program, plain_thread}
use Rattle.ls_automaton.specs.Fates.{AreFatesTo}
use Rattle.ls_automaton.specs.States.{ways_of}
use Rattle.ls_serial.proofs.Lists.{is_get}
use Rattle.ls_serial_faults.specs.Faults.{MeetsBound}
use Rattle.ls_serial_faults.specs.Noted.{AreAdded}
use Rattle.ls_serial_faults.proofs.Adding.{ways_more}
use Rattle.ls_serial_faults.proofs.FirstFaults.{why_either}
use Rattle.ls_serial_faults.proofs.Reached.{all_faults}
use Rattle.ls_serial_faults.proofs.finding.serial_faults.Goals as goal

pub loop-number-preserved : goal.loop-number-preserved
loop-number-preserved c =
    let file : File = plain_file c.args.file.now in
    let program : Program = plain_program c.args.program.now in
    let states = c.in_ok-states.ensures.states in
    let number = c.loop-number.number in
    let way = c.way-way.result.now in
    let row = c.index.result.now in
    let there : slice_get c.in_ok-states.states.fates.items number ≡ Some row =
    is_get c.in_ok-states.states.fates.items number row
    (omega (arith, c.loop-number-test.true, c.len-number-end.ensures)) ∙ ap Some (sym c.index.ensures) in
    let fates : AreFatesTo file program c.args.bounds.now.steps way c.as_slice.result.now =
    subst (AreFatesTo file program c.args.bounds.now.steps way) (sym c.as_slice.ensures.value)
    (states.fates number way row c.way-way.ensures there).each in
    let added : AreAdded file program c.args.bounds.now.steps way (length c.args.program.now.threads.items)
    c.loop-number.found c.note_fates.new.found =
    c.in_ok-note_fates.ensures file c.args.bounds.now.steps (states.serial number way c.way-way.ensures)
    (states.acts number way c.way-way.ensures) fates in
    record {
      faults = added.faults c.loop-number.invariant.faults;
      noted = ways_more file program (ways_of c.in_ok-states.states) number way c.loop-number.found
          c.note_fates.new.found added.kept c.way-way.ensures c.loop-number.invariant.noted
          (λ t less. added.noted t
          (subst (λ n. t < n) (length-map c.args.program.now.threads.items plain_thread) less));
      known = λ all. c.loop-number.invariant.known (added.kept.complete all);
      why = λ cut. why_either c.loop-number.found.complete (MeetsBound file program c.args.bounds.now)
          (λ up. inr (added.why up cut)) (λ down. c.loop-number.invariant.why down);
    }

pub returns-clause-all : goal.returns-clause-all
returns-clause-all c = λ all.
    let file : File = plain_file c.args.file.now in
    let program : Program = plain_program c.args.program.now in
    let known = c.loop-number.invariant.known all in
    all_faults file program c.args.bounds.now.steps c.in_ok-states.states
    (c.in_ok-states.ensures.outcomes known.0) known.1 c.loop-number.found c.loop-number.number
    (omega (arith, c.loop-number-test.false, c.len-number-end.ensures)) c.loop-number.invariant.noted all
