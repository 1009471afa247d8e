-- What the loop `at` of `judge_rows_like` in src/likeness.rt keeps.

use Rattle.std.proofs.Common.{◌≡◌, take}
use Rattle.std.specs.Prelude.{All}
use Rattle.ls_specification.specs.Specification.{spec_file, spec_program}
use Rattle.ls_linearity.specs.Judges.{Judges}
use Rattle.ls_explore_reports.specs.Below.{IsFor}
use Rattle.ls_explore_reports.specs.Judged.{AreMeant, IsToldBelowLike, SaysNoSet, rows_of}
use Rattle.ls_explore_reports.proofs.likeness.judge_rows_like.Given as goal

abbrev pub invariant-loop-at : goal.invariant-loop-at
invariant-loop-at l = record {
  judges : Judges (spec_file l.specification) (spec_program l.specification) l.judge;
  runs : IsFor l.orders (spec_file l.specification) (spec_program l.specification) l.known;
  rows : rows_of l.judged.items ≡ take l.at l.rows;
  linear : AreMeant (spec_file l.specification) (spec_program l.specification) l.judged.items;
  sets : All SaysNoSet l.judged.items;
  below : All (IsToldBelowLike l.orders (spec_file l.specification) (spec_program l.specification)) l.judged.items;
}
