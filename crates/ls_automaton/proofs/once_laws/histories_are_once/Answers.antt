-- Why `histories_are_once` in src/once_laws.rt keeps its contract.

use Rattle.ls_automaton.proofs.Once.{once}
use Rattle.ls_automaton.proofs.once_laws.histories_are_once.Goals as goal

pub returns : goal.returns
returns c = once
