-- Why `tell` in src/telling.rt calls as these functions want.

use Rattle.ls_alone.proofs.Unfound.{if_none}
use Rattle.ls_alone.proofs.telling.tell.Goals as goal

pub told_throws-requires-clause-all : goal.told_throws-requires-clause-all
told_throws-requires-clause-all c = λ all. if_none c.in_ok-found.found.throws (c.in_ok-found.ensures.all all).throws

pub told_waits-requires-clause-all : goal.told_waits-requires-clause-all
told_waits-requires-clause-all c = λ all. if_none c.in_ok-found.found.waits (c.in_ok-found.ensures.all all).waits

pub told_turns-requires-clause-all : goal.told_turns-requires-clause-all
told_turns-requires-clause-all c = λ all. if_none c.in_ok-found.found.turns (c.in_ok-found.ensures.all all).turns
