-- Why `shown` in src/faulty.rt keeps its contract.

use Rattle.std.proofs.Common.{◌∙◌}
use Rattle.ls_find_commands.specs.Faulty.{Shows}
use Rattle.ls_find_commands.proofs.faulty.shown.Goals as goal

pub returns : goal.returns
returns c = Shows c.in_ok-why.why c.new.result c.in_ok-schedule.schedule c.in_ok-why.ensures c.new.ensures.bytes
    (c.in_ok-schedule.ensures.ok ∙ c.as_str.ensures.value)
