-- Why `fault_of` in src/program.rt keeps its clause `stands`.

use Rattle.std.proofs.Common.{subst}
use Rattle.ls_lexer.specs.Places.{Refused}
use Rattle.ls_types_reading.proofs.Standing.{bad_byte, open_comment, bad_number}
use Rattle.ls_types_reading.proofs.program.fault_of.Goals as goal

pub returns-in-BadByte-clause-stands : goal.returns-in-BadByte-clause-stands
returns-in-BadByte-clause-stands c = λ text h o. bad_byte o text c.in-BadByte.at
    (subst (Refused text) c.in-BadByte.is h)

pub returns-in-OpenComment-clause-stands : goal.returns-in-OpenComment-clause-stands
returns-in-OpenComment-clause-stands c = λ text h o. open_comment o text c.in-OpenComment.at
    (subst (Refused text) c.in-OpenComment.is h)

pub returns-in-BadNumber-clause-stands : goal.returns-in-BadNumber-clause-stands
returns-in-BadNumber-clause-stands c = λ text h o. bad_number o text c.in-BadNumber.at
    (subst (Refused text) c.in-BadNumber.is h)
