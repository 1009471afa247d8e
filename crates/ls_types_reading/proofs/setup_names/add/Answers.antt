-- Why `add` in src/setup_names.rt keeps its clause `named`.

use Rattle.std.proofs.Common.{rules}
use Rattle.ls_types_reading.proofs.ByName.{setup_pushed}
use Rattle.ls_types_reading.proofs.setup_names.add.Goals as goal

pub returns-clause-named : goal.returns-clause-named
returns-clause-named c =
    setup_pushed _ _ _ _ c.args.names.now.items c.push.new.self.items c.in_ok-name.name c.args.class c.requires
    (search rules) (search rules)
    c.in_ok-give.ensures.given c.in_ok-push.ensures.items
