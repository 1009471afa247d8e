-- Why `place_at` in src/sounding.rt keeps its contract.
use Rattle.std.proofs.Common.{get_or, refl}
use Rattle.std.proofs.lemmas.Option.{slice_get-get_or}
use Rattle.ls_spinning.proofs.sounding.place_at.Goals as goal

pub returns : goal.returns
returns c = (
  get_or c.args.nodes.now c.args.at c.index-nodes-at.result,
  slice_get-get_or c.args.nodes.now c.args.at c.index-nodes-at.result c.requires,
  refl,
)
