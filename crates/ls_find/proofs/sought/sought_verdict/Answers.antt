-- Why `sought_verdict` in src/sought.rt keeps its contract and what `well_verdict` requires.

use Rattle.std.proofs.Common.{subst}
use Rattle.ls_specification.specs.Specification.{given_of}
use Rattle.ls_translation.specs.Texts.{file_of, program_of}
use Rattle.ls_find.specs.Said.{IsVerdict}
use Rattle.ls_find.proofs.Legalities.{unknown_for}
use Rattle.ls_find.proofs.sought.sought_verdict.Goals as goal

pub well_verdict-requires-clause-good : goal.well_verdict-requires-clause-good
well_verdict-requires-clause-good c =
    subst (IsVerdict c.args.states c.args.sought (given_of c.args.given) (file_of c.args.image.now)
    (program_of c.args.image.now)) c.in-Good.is
    c.in_ok-verdict_on.ensures

pub returns-in-Bad : goal.returns-in-Bad
returns-in-Bad c =
    subst (IsVerdict c.args.states c.args.sought (given_of c.args.given) (file_of c.args.image.now)
    (program_of c.args.image.now)) c.in-Bad.is
    c.in_ok-verdict_on.ensures

pub returns-in-Unknown : goal.returns-in-Unknown
returns-in-Unknown c =
    unknown_for c.args.sought c.args.states (given_of c.args.given) (file_of c.args.image.now)
    (program_of c.args.image.now)
    (subst (IsVerdict c.args.states c.args.sought (given_of c.args.given) (file_of c.args.image.now)
    (program_of c.args.image.now))
    c.in-Unknown.is c.in_ok-verdict_on.ensures)
