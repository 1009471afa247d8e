-- Why `found_among` in src/among.rt keeps its clause `found`.

use Rattle.std.proofs.Common.{None, arith}
use Rattle.ls_find_commands.specs.Faulty.{NoneIsSought}
use Rattle.ls_find_commands.proofs.among.found_among.Goals as goal

pub returns-in_ok-finding-in-Nothing-clause-found : goal.returns-in_ok-finding-in-Nothing-clause-found
returns-in_ok-finding-in-Nothing-clause-found g c = record {
  last = c.args.asked.now.numbers.to;
  faulty = None;
  first = NoneIsSought c.in-Nothing.is;
  searched = c.in_ok-finding-in-Nothing.ensures.searched;
  asked = omega arith;
  order = c.requires.order;
  within = omega arith;
}
