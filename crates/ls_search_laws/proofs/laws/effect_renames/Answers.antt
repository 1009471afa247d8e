-- Why `effect_renames` in src/laws.rt keeps its contract.

use Rattle.ls_search_laws.proofs.Renaming.{effect_renames}
use Rattle.ls_search_laws.proofs.laws.effect_renames.Goals as goal

pub returns : goal.returns
returns c = effect_renames
