-- What the loop `at` of `rows_legality` in src/legal.rt keeps.

use Rattle.ls_checked.specs.PlainProgram.{plain_program}
use Rattle.ls_verdicts.specs.Verdicts.{IsVerdict}
use Rattle.ls_verdicts.specs.declared.verdicts.Verdict.TheVariants.{Legal}
use Rattle.ls_endless_calls.proofs.Places.{AreSo}
use Rattle.ls_find.proofs.legal.rows_legality.Given as goal

abbrev pub invariant-loop-at : goal.invariant-loop-at
invariant-loop-at l = AreSo l.rows (λ k r. IsVerdict (plain_program l.program) r.history Legal) l.at
