-- Why `well_verdict` in src/sought.rt keeps its contract.

use Rattle.std.proofs.Common.{subst}
use Rattle.std.proofs.lemmas.Result.{IfOk-weaker}
use Rattle.ls_specification.specs.Specification.{given_of}
use Rattle.ls_translation.specs.Texts.{file_of, program_of}
use Rattle.ls_find.specs.Sought.{IsLegalVerdict}
use Rattle.ls_find.proofs.Legalities.{unjudged_for, with_turning}
use Rattle.ls_find.proofs.sought.well_verdict.Goals as goal

pub returns-in-Good : goal.returns-in-Good
returns-in-Good c =
    let given = given_of c.args.given in
    let file = file_of c.args.image.now in
    let program = program_of c.args.image.now in
    let legal = subst (IsLegalVerdict c.args.sought c.args.states given file program) c.in-Good.is
    (c.in_ok-legal_verdict.ensures given) in
    IfOk-weaker c.turning_verdict.result _ _
    (λ v said. with_turning c.args.sought c.args.states given file program v c.requires.good legal said)
    c.turning_verdict.ensures

pub returns-in-Good-2 : goal.returns-in-Good-2
returns-in-Good-2 c =
    let given = given_of c.args.given in
    let file = file_of c.args.image.now in
    let program = program_of c.args.image.now in
    let unjudged = subst (IsLegalVerdict c.args.sought c.args.states given file program) c.in-Unknown.is
    (c.in_ok-legal_verdict.ensures given) in
    unjudged_for c.args.sought c.args.states given file program c.requires.good unjudged
    c.in_ok-turning_verdict-in-Unknown.field-0 c.in-Good-2.is c.in_ok-turning_verdict-in-Unknown.ensures

pub returns-in-Bad : goal.returns-in-Bad
returns-in-Bad c =
    let given = given_of c.args.given in
    subst (IsLegalVerdict c.args.sought c.args.states given (file_of c.args.image.now) (program_of c.args.image.now))
    c.in-Bad.is (c.in_ok-legal_verdict.ensures given)
