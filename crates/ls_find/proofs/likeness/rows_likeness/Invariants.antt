-- What the loop `at` of `rows_likeness` in src/likeness.rt keeps.

use Rattle.ls_linearity.specs.Judges.{Judges}
use Rattle.ls_linearizable.specs.Linearizable.{IsLinearizable}
use Rattle.ls_endless_calls.proofs.Places.{AreSo}
use Rattle.ls_specification.specs.Specification.{spec_file, spec_program}
use Rattle.ls_find.proofs.likeness.rows_likeness.Given as goal

abbrev pub invariant-loop-at : goal.invariant-loop-at
invariant-loop-at l = record {
  judges : Judges (spec_file l.specification) (spec_program l.specification) l.judge;
  linear : AreSo l.rows (λ k r. IsLinearizable (spec_file l.specification) (spec_program l.specification) r.history)
      l.at;
}
