-- What the loop `d` of `digits_of` in src/numbers.rt keeps.

use Rattle.std.proofs.Common.{◌≡◌, ◌≤◌, drop}
use Rattle.ls_types_elaboration.specs.TypedExpressions.{digits_value}
use Rattle.ls_types_elaboration.proofs.numbers.digits_of.Given as goal

abbrev pub invariant-loop-d : goal.invariant-loop-d
invariant-loop-d l = record {
  small : l.n ≤ 2147483648;
  same : digits_value l.n (drop l.d-index l.text) ≡ digits_value 0 l.text;
}
