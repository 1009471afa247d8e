-- Why `is_still` in src/quiet.rt keeps its clauses.

use Rattle.std.proofs.Common.{subst}
use Rattle.ls_spinning.specs.Told.{IsTurning}
use Rattle.ls_translation.specs.Texts.{file_of, program_of}
use Rattle.ls_find_races.proofs.quiet.is_still.Goals as goal

pub returns-clause-turns : goal.returns-clause-turns
returns-clause-turns c = λ up asked.
    subst (IsTurning (file_of c.args.image.now) (program_of c.args.image.now)) (c.is_never.ensures up)
    c.in_ok-told.ensures.turning

pub returns-then-not-turning-clause-races : goal.returns-then-not-turning-clause-races
returns-then-not-turning-clause-races c = λ up. c.in_ok-told.ensures.races c.if-not-told.false

pub returns-clause-races : goal.returns-clause-races
returns-clause-races c = λ up. c.in_ok-told.ensures.races c.if-not-told.false
