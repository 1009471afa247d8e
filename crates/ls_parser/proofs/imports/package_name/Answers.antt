-- Why `package_name` in src/imports.rt keeps its clause `leaves`.

use Rattle.ls_parser.proofs.Leaving.{then_closed}
use Rattle.ls_parser.proofs.imports.package_name.Goals as goal

pub returns-clause-leaves : goal.returns-clause-leaves
returns-clause-leaves c =
    then_closed c.in_ok-first.ensures.placed c.in_ok-more.ensures.leaves c.in_ok-more-2.ensures.placed
