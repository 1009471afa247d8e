-- Why `pending_rows` in src/laws.rt keeps its contract.

use Rattle.std.proofs.Common.{refl}
use Rattle.ls_progress_laws.proofs.laws.pending_rows.Goals as goal

pub returns : goal.returns
returns c = record { none = refl; begun = refl; other = refl; ended = refl; second = refl; waits = refl; twice = refl }
