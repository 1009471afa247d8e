-- Why `fits_shorter` in src/laws.rt keeps its contract.

use Rattle.ls_preservation.proofs.Shorter.{shorter}
use Rattle.ls_preservation.proofs.laws.fits_shorter.Goals as goal

pub returns : goal.returns
returns c = shorter
