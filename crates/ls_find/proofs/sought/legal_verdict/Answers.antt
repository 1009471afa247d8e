-- Why `legal_verdict` in src/sought.rt keeps its contract.

use Rattle.std.proofs.lemmas.Result.{IfOk-weaker}
use Rattle.ls_translation.specs.Texts.{file_of, program_of}
use Rattle.ls_find.proofs.Legalities.{not_both, of_set}
use Rattle.ls_find.proofs.sought.legal_verdict.Goals as goal

pub returns-then-sought : goal.returns-then-sought
returns-then-sought c =
    IfOk-weaker c.set_verdict.result _ _
    (λ v said given. of_set c.args.sought c.args.states given (file_of c.args.image.now) (program_of c.args.image.now) v
    c.if-sought.true (said given)) c.set_verdict.ensures

pub returns : goal.returns
returns c = λ given up. absurd (not_both up c.if-sought.false)
