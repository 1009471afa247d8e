-- Why `verdict_of` in src/beside.rt keeps its contract.

use Rattle.ls_explore_commands.proofs.beside.verdict_of.Goals as goal

pub returns-then-race_free : goal.returns-then-race_free
returns-then-race_free c = c.requires c.if-race_free.true
