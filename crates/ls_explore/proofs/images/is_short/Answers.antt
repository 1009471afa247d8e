-- Why `is_short` in src/images.rt keeps its contract.

use Rattle.ls_translation.proofs.Promises.{is_short}
use Rattle.ls_explore.proofs.images.is_short.Goals as goal

pub returns : goal.returns
returns c = is_short _ _ c.args.image.now.code c.args.image.now.kept
