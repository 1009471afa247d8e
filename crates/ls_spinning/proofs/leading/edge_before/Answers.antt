-- Why `edge_before` in src/leading.rt keeps its contract.

use Rattle.std.proofs.Common.{◌+◌, ◌-◌, ◌<◌, length, arith}
use Rattle.std.proofs.lemmas.Option.{slice_get-get_or}
use Rattle.ls_spinning.proofs.leading.edge_before.Goals as goal

pub returns : goal.returns
returns c =
    let edges = c.args.edges.now in
    let within : length edges - (c.args.after + 1) < length edges = omega (arith, c.requires) in
    (length edges - (c.args.after + 1), slice_get-get_or edges (length edges - (c.args.after + 1)) _ within)
