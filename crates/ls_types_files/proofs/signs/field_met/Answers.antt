-- Why `field_met` in src/signs.rt keeps its contract.

use Rattle.std.proofs.Common.{rules}
use Rattle.ls_types_elaboration.specs.PlacedStatements.{placed_declarator}
use Rattle.ls_types_files.proofs.Declarations.{field_twice, field_over, field_added}
use Rattle.ls_types_files.proofs.signs.field_met.Goals as goal

pub returns-then-contains_key : goal.returns-then-contains_key
returns-then-contains_key c =
    let e = field_twice c.args.t c.args.met.now (placed_declarator c.args.d.now) (search rules) in search rules

pub returns-then-len-ge-MOST_FIELDS : goal.returns-then-len-ge-MOST_FIELDS
returns-then-len-ge-MOST_FIELDS c =
    let e = field_over c.args.t c.args.met.now (placed_declarator c.args.d.now) (search rules) (search rules) in
    search rules

pub returns : goal.returns
returns c =
    let e = field_added c.args.t c.args.met.now (placed_declarator c.args.d.now) (search rules) c.in_ok-from_str.field-0
    c.insert.new.self.entries (search rules) (search rules) c.in_ok-insert.ensures.entries in
    cc
