-- Why `numbered` in src/spots.rt keeps its contract.

use Rattle.std.proofs.Common.{arith, subst}
use Rattle.ls_checked.specs.CheckedTree.{File}
use Rattle.ls_checked.specs.CheckedProgram.{Program}
use Rattle.ls_checked.specs.Plain.{plain_file}
use Rattle.ls_checked.specs.PlainProgram.{plain_program}
use Rattle.ls_automaton.specs.Spots.{IsMarkedAt}
use Rattle.ls_automaton.proofs.Reaching.{known_number, new_number, new_spot}
use Rattle.ls_automaton.proofs.spots.numbered.Goals as goal

pub returns-in-Some-clause-number : goal.returns-in-Some-clause-number
returns-in-Some-clause-number c =
    let file : File = plain_file c.args.task.now.file.now in
    let program : Program = plain_program c.args.task.now.program.now in
    known_number file program c.args.spots.now.list.items c.in-Some.number c.args.run.now
    c.args.steps.items c.requires.spots
    c.in-Some.ensures c.requires.run

pub returns-clause-number : goal.returns-clause-number
returns-clause-number c =
    let file : File = plain_file c.args.task.now.file.now in
    let program : Program = plain_program c.args.task.now.program.now in
    new_number file program c.args.spots.now.list.items c.push.new.self.items c.in_ok-spot.spot c.len-number.result
    c.args.steps c.requires.spots
    (new_spot file program c.in_ok-spot.spot c.args.steps c.args.run.now c.in_ok-spot.ensures.steps
    c.in_ok-spot.ensures.mark c.requires.run c.requires.serial c.requires.acts)
    c.in_ok-spot.ensures.steps c.in_ok-push.ensures.items (omega arith)
