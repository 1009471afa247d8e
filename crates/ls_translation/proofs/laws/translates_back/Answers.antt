-- Why `translates_back` in src/laws.rt keeps its contract.

use Rattle.ls_translation.proofs.RoundTripLemmas.{runs_back}
use Rattle.ls_translation.proofs.laws.translates_back.Goals as goal

pub returns : goal.returns
returns c = runs_back _ _ _ c.args.image.now.kept c.args.cells c.requires
