-- Why `long_calls_are_runs` in src/laws.rt keeps its contract.

use Rattle.ls_serial_search.proofs.Open as lemmas
use Rattle.ls_serial_search.proofs.laws.long_calls_are_runs.Goals as goal

pub returns : goal.returns
returns c = lemmas.long_run
