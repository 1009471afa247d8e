-- Why `Machine::take_from` in src/machine/running.rt keeps its clause `same`.

use Rattle.std.proofs.Common.{◌+◌, refl, arith}
use Rattle.ls_machine.proofs.Stays.{step_from, turn_from}
use Rattle.ls_machine.proofs.machine.Machine.take_from.Goals as goal

pub returns-clause-same : goal.returns-clause-same
returns-clause-same c = step_from c.args.self.now c.take_step.new.self c.args.steps.now c.args.at (c.args.at + 1) _ 0
    (omega arith) c.requires refl c.take_step.ensures

pub returns-then-steps-next-clause-same : goal.returns-then-steps-next-clause-same
returns-then-steps-next-clause-same c = turn_from c.args.self.now c.take_turn.new.self c.args.steps.now c.args.at
    (c.args.at + 1) c.same_until-end.result _ 0 (omega arith) c.same_until-end.ensures.within.0 c.requires refl
    c.same_until-end.ensures.same c.take_turn.ensures
