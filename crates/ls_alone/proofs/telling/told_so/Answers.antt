-- Why `told_so` in src/telling.rt keeps its contract.

use Rattle.std.proofs.Common.{refl}
use Rattle.ls_alone.proofs.telling.told_so.Goals as goal

pub returns : goal.returns
returns c = record {
  faulty = record { words = c.args.words; schedule = c.in_ok-schedule.schedule };
  is = refl;
  words_are = refl;
  schedule_is = c.in_ok-schedule.ensures;
}
