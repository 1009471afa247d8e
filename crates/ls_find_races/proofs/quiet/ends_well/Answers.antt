-- Why `ends_well` in src/quiet.rt keeps its contract.

use Rattle.std.proofs.Common.{subst}
use Rattle.ls_find.specs.Sought.{IsVerdictFor}
use Rattle.ls_specification.specs.Specification.{given_of}
use Rattle.ls_translation.specs.Texts.{file_of, program_of}
use Rattle.ls_find_races.proofs.Settled.{ends_for}
use Rattle.ls_find_races.proofs.quiet.ends_well.Goals as goal

pub returns : goal.returns
returns c = λ up.
    let given = given_of c.args.given in
    let file = file_of c.args.image.now in
    let program = program_of c.args.image.now in
    ends_for c.args.sought c.but_turning.result given file program c.but_turning.ensures
    (subst (IsVerdictFor c.but_turning.result c.args.states given file program) (c.is_good.ensures up)
    c.in_ok-verdict.ensures)
