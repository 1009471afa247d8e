-- Why `is_settled` in src/quiet.rt keeps its clauses.

use Rattle.ls_specification.specs.Specification.{given_of}
use Rattle.ls_translation.specs.Texts.{file_of, program_of}
use Rattle.ls_find_races.proofs.Settled.{good_for}
use Rattle.ls_find_races.proofs.quiet.is_settled.Goals as goal

pub returns-clause-good : goal.returns-clause-good
returns-clause-good c = λ up.
    good_for c.args.sought (given_of c.args.given) (file_of c.args.image.now) (program_of c.args.image.now)
    (c.in_ok-well.ensures up) (c.in_ok-still.ensures.turns c.if-not-still.false)

pub returns-clause-free : goal.returns-clause-free
returns-clause-free c = λ up. c.in_ok-still.ensures.races c.if-not-still.false
