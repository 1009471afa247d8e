-- Why `same_values` in src/calls.rt keeps its contract.

use Rattle.std.proofs.Common.{rules}
use Rattle.std.proofs.lemmas.Slice.Eq.{slice_eq-Decides}
use Rattle.ls_same_calls.proofs.calls.same_values.Goals as goal

pub returns : goal.returns
returns c = slice_eq-Decides (λ a b. search rules) c.args.first.now c.args.second.now c.eq.result c.eq.ensures
