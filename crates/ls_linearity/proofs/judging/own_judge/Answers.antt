-- Why `own_judge` in src/judging.rt keeps its contract.

use Rattle.ls_checked.specs.Plain.{plain_file}
use Rattle.ls_checked.specs.PlainProgram.{plain_program}
use Rattle.ls_linearity.proofs.Decided.{judges_own}
use Rattle.ls_linearity.proofs.judging.own_judge.Goals as goal

pub returns : goal.returns
returns c =
    judges_own c.own.result (plain_file c.args.file.now) (plain_program c.args.program.now) c.in_ok-judge.judge
    c.own.ensures.file c.own.ensures.program c.in_ok-judge.ensures
