-- Why `Reader::pass_on` in src/groups.rt keeps its clause `passes`.

use Rattle.std.proofs.Common.{map}
use Rattle.ls_schedule.specs.Reading.{thread_name}
use Rattle.ls_schedule.proofs.groups.Reader.pass_on.Goals as goal

pub returns-in-Some-clause-passes : goal.returns-in-Some-clause-passes
returns-in-Some-clause-passes c all =
    c.pass_short.ensures.passes (map thread_name c.args.threads.now) c.args.table.now c.args.at c.args.text.now
    c.requires.table c.in-Some.ensures
