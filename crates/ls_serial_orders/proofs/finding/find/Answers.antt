-- Why `find` in src/finding.rt keeps its contract and what `find_by` requires.

use Rattle.std.proofs.Common.{subst}
use Rattle.ls_serial_orders.specs.Known.{IsTable, file_of, program_of}
use Rattle.ls_serial_orders.proofs.finding.find.Goals as goal

pub find_by-requires : goal.find_by-requires
find_by-requires c = subst (IsTable (file_of c.args.known.now) (program_of c.args.known.now)) c.in-Some.is c.requires

pub returns-in-None : goal.returns-in-None
returns-in-None c = subst (IsTable (file_of c.args.known.now) (program_of c.args.known.now)) c.in-None.is c.requires
