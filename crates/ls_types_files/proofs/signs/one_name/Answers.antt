-- Why `one_name` in src/signs.rt keeps its contract.

use Rattle.std.proofs.Common.{rules}
use Rattle.ls_types_elaboration.specs.PlacedStatements.{placed_class}
use Rattle.ls_types_files.proofs.Declarations.{name_twice, name_over, name_added}
use Rattle.ls_types_files.proofs.signs.one_name.Goals as goal

pub returns-then-contains : goal.returns-then-contains
returns-then-contains c =
    let e = name_twice c.args.names.now.keys (placed_class c.args.c.now) (search rules) (search rules) in search rules

pub returns-then-len-ge-MOST_CLASSES : goal.returns-then-len-ge-MOST_CLASSES
returns-then-len-ge-MOST_CLASSES c =
    let e = name_over c.args.names.now.keys (placed_class c.args.c.now) (search rules) (search rules) (search rules) in
    search rules

pub returns : goal.returns
returns c =
    let e = name_added c.args.names.now.keys (placed_class c.args.c.now) (search rules) (search rules)
    c.in_ok-from_str.field-0 (search rules) (search rules) in
    let k = c.in_ok-insert.ensures.keys in
    cc
