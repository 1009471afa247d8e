-- Why `least_with` in src/least.rt keeps what `cut_on` requires.

use Rattle.ls_verdicts.proofs.least.least_with.Goals as goal

pub cut_on-requires : goal.cut_on-requires
cut_on-requires c = (c.requires.events, c.requires.named)
