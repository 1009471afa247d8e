-- Why `are_same` in src/results.rt keeps its contract.

use Rattle.std.proofs.Common.{rules}
use Rattle.std.proofs.lemmas.Slice.Eq.{slice_eq-Decides}
use Rattle.ls_specified.proofs.results.are_same.Goals as goal

pub returns : goal.returns
returns c = slice_eq-Decides (λ a b. search rules) c.args.first.now c.args.second.now c.eq.result c.eq.ensures
