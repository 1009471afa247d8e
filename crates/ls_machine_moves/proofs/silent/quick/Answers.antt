-- Why `quick` in src/silent.rt keeps its clause `others`.

use Rattle.ls_machine_moves.proofs.silent.quick.Goals as goal

pub returns-in-Push-clause-others : goal.returns-in-Push-clause-others
returns-in-Push-clause-others c = c.push.ensures.decided c.args.instruction

pub returns-in-Load-clause-others : goal.returns-in-Load-clause-others
returns-in-Load-clause-others c = c.load.ensures.decided c.args.instruction

pub returns-in-Store-clause-others : goal.returns-in-Store-clause-others
returns-in-Store-clause-others c = c.store.ensures.decided c.args.instruction

pub returns-in-Dup-clause-others : goal.returns-in-Dup-clause-others
returns-in-Dup-clause-others c = c.duplicate.ensures.decided c.args.instruction

pub returns-in-JumpIfFalse-clause-others : goal.returns-in-JumpIfFalse-clause-others
returns-in-JumpIfFalse-clause-others c = c.jump.ensures.decided c.args.instruction

pub returns-in-JumpIfTrue-clause-others : goal.returns-in-JumpIfTrue-clause-others
returns-in-JumpIfTrue-clause-others c = c.jump-in-JumpIfTrue.ensures.decided c.args.instruction
