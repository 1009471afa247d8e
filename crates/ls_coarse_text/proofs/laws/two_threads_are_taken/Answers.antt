-- Why `two_threads_are_taken` in src/laws.rt keeps its contract.

use Rattle.ls_coarse_text.proofs.Examples.{example_is_taken}
use Rattle.ls_coarse_text.proofs.laws.two_threads_are_taken.Goals as goal

pub returns : goal.returns
returns c = example_is_taken c.one_file.ensures c.no_places.ensures c.reads_what_is_spelled.ensures.law
