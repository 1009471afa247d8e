-- Why `words` in src/lib.rt keeps its contract.

use Rattle.std.proofs.Common.{refl}
use Rattle.ls_code.specs.Instructions.{table}
use Rattle.ls_machine_rows.proofs.words.Goals as goal

pub returns-clause-without_operand : goal.returns-clause-without_operand
unfolding table
returns-clause-without_operand c = (
  (refl, refl),
  (refl, refl),
  (refl, refl),
  (refl, refl),
  (refl, refl),
  (refl, refl),
  (refl, refl),
  (refl, refl),
  (refl, refl),
  (refl, refl),
  (refl, refl),
  (refl, refl),
  (refl, refl),
  (refl, refl),
  (refl, refl),
  (refl, refl),
  (refl, refl),
  (refl, refl),
  (refl, refl),
  (refl, refl),
  (refl, refl),
  (refl, refl),
  (refl, refl),
  (refl, refl),
  (refl, refl),
  (refl, refl),
  (refl, refl),
  (refl, refl),
  (refl, refl),
  (refl, refl),
  (refl, refl),
  (refl, refl),
  (refl, refl),
  (refl, refl),
  (refl, refl),
  (refl, refl),
)

pub returns-clause-least_operands : goal.returns-clause-least_operands
unfolding table
returns-clause-least_operands c = (
  (refl, refl),
  (refl, refl),
  (refl, refl),
  (refl, refl),
  (refl, refl),
  (refl, refl),
  (refl, refl),
  (refl, refl),
  (refl, refl),
  (refl, refl),
  (refl, refl),
  (refl, refl),
  (refl, refl),
  (refl, refl),
  (refl, refl),
  (refl, refl),
  (refl, refl),
  (refl, refl),
)

pub returns-clause-greatest_operands : goal.returns-clause-greatest_operands
unfolding table
returns-clause-greatest_operands c = (
  (refl, refl),
  (refl, refl),
  (refl, refl),
  (refl, refl),
  (refl, refl),
  (refl, refl),
  (refl, refl),
  (refl, refl),
  (refl, refl),
  (refl, refl),
  (refl, refl),
  (refl, refl),
  (refl, refl),
  (refl, refl),
  (refl, refl),
  (refl, refl),
  (refl, refl),
  (refl, refl),
)

pub returns-clause-other_operands : goal.returns-clause-other_operands
unfolding table
returns-clause-other_operands c = ((refl, refl), (refl, refl), (refl, refl))

pub returns-clause-no_instruction : goal.returns-clause-no_instruction
unfolding table
returns-clause-no_instruction c = (refl, refl, refl, refl, refl)
