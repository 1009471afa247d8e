-- Why `Gathering::place_of` in src/gathering.rt keeps its contract.

use Rattle.std.proofs.Common.{◌∙◌}
use Rattle.ls_tallies.proofs.gathering.Gathering.place_of.Goals as goal

pub returns : goal.returns
returns c = c.copied.ensures ∙ c.get.ensures.value ∙ c.requires c.args.history.now
