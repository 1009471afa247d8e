-- Why `whole_verdict` in src/verdict.rt keeps its contract.

use Rattle.std.proofs.Common.{ℕ, subst, sym}
use Rattle.std.specs.Prelude.{IfOk}
use Rattle.ls_specification.specs.Specification.{given_of}
use Rattle.ls_translation.specs.Texts.{file_of, program_of}
use Rattle.ls_find.specs.Said.{IsVerdict}
use Rattle.ls_find.specs.declared.verdict.ProgramVerdict.{ProgramVerdict}
use Rattle.ls_find.proofs.verdict.whole_verdict.Goals as goal

pub returns-in-Some : goal.returns-in-Some
returns-in-Some c =
    subst (λ o. IfOk c.like_verdict.result (λ (v : ProgramVerdict). (states : ℕ) →
    IsVerdict states c.args.sought (given_of o) (file_of c.args.image.now) (program_of c.args.image.now) v))
    (sym c.in-Some.is) c.like_verdict.ensures

pub returns-in-None : goal.returns-in-None
returns-in-None c =
    subst (λ o. IfOk c.own_verdict.result (λ (v : ProgramVerdict). (states : ℕ) →
    IsVerdict states c.args.sought (given_of o) (file_of c.args.image.now) (program_of c.args.image.now) v))
    (sym c.in-None.is) c.own_verdict.ensures
