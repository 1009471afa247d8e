-- Why `Instruction::word` in src/instruction.rt keeps its clause `decodes`.

use Rattle.std.proofs.Common.{◌<◌, ◌^◌}
use Rattle.ls_code.specs.Instructions.{operand_of}
use Rattle.ls_code.proofs.Instructions.{decoded-encoded}
use Rattle.ls_code.proofs.instruction.Instruction.word.Goals as goal

pub returns-clause-decodes : goal.returns-clause-decodes
returns-clause-decodes c =
    let small : operand_of c.args.self < 2 ^ 32 = rw c.operand.ensures.operand at c.operand.ensures.small in
    rw (c.opcode.ensures, c.operand.ensures.operand) (decoded-encoded c.args.self small)
