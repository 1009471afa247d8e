-- Why `steps_past` in src/cutting.rt keeps its contract.

use Rattle.std.proofs.Common.{◌≤◌, arith}
use Rattle.ls_checked.specs.Plain.{plain_file}
use Rattle.ls_checked.specs.PlainProgram.{plain_program}
use Rattle.ls_verdicts.proofs.Begins.{grows}
use Rattle.ls_verdicts.proofs.cutting.steps_past.Goals as goal

pub returns : goal.returns
returns c =
    let inv = c.bisect.invariant in
    let file = plain_file c.args.file.now in
    let program = plain_program c.args.program.now in
    record {
      within = inv.1;
      past = inv.3;
      before = λ m lt.
          let end = c.bisect-test.false in
          let less : m ≤ c.bisect.fewer = omega arith in
          let up = grows file program c.args.steps.now m c.bisect.fewer less in
          let few = inv.2 in
          omega (arith, up, few);
    }
