-- Why `sound_follows` in src/laws.rt keeps its contract.

use Rattle.ls_find.proofs.Followed.{sound_follows}
use Rattle.ls_find.proofs.laws.sound_follows.Goals as goal

pub returns : goal.returns
returns c =
    sound_follows c.one_answer.ensures c.reads_what_is_spelled.ensures.one c.doubles_are_exchanged.ensures
    c.doubles_have_names.ensures c.exchanged_is_linearizable.ensures c.exchanged_is_legal.ensures
    c.exchanged_never_waits.ensures c.exchanged_never_turns.ensures
