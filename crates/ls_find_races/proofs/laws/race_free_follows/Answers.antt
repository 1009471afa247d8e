-- Why `race_free_follows` in src/laws.rt keeps its contract.

use Rattle.ls_find_races.proofs.Following.{race_free_follows}
use Rattle.ls_find_races.proofs.laws.race_free_follows.Goals as goal

pub returns : goal.returns
returns c =
    race_free_follows c.one_answer.ensures c.reads_what_is_spelled.ensures.one c.doubles_are_exchanged.ensures
    c.exchanged_never_meets.ensures
