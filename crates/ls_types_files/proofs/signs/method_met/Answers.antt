-- Why `method_met` in src/signs.rt keeps its contract.

use Rattle.std.proofs.Common.{rules}
use Rattle.ls_types_elaboration.specs.Placed.{placed_name}
use Rattle.ls_types_files.proofs.Declarations.{method_twice, method_over, method_added}
use Rattle.ls_types_files.proofs.signs.method_met.Goals as goal

pub returns-then-contains_key : goal.returns-then-contains_key
returns-then-contains_key c =
    let e = method_twice c.args.met.now (placed_name c.args.n.now) c.args.types c.args.answers (search rules) in
    search rules

pub returns-then-met-ge-MOST_METHODS : goal.returns-then-met-ge-MOST_METHODS
returns-then-met-ge-MOST_METHODS c =
    let e = method_over c.args.met.now (placed_name c.args.n.now) c.args.types c.args.answers (search rules)
    c.if-met-ge-MOST_METHODS.true in search rules

pub returns : goal.returns
returns c =
    let e = method_added c.args.met.now (placed_name c.args.n.now) c.args.types c.args.answers (search rules)
    c.in_ok-from_str.field-0 c.insert.new.self.entries (search rules) c.if-met-ge-MOST_METHODS.false
    c.in_ok-insert.ensures.entries in
    cc
