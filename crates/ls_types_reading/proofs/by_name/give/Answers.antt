-- Why `give` in src/by_name.rt keeps its clause `given`.

use Rattle.std.proofs.Common.{rules}
use Rattle.ls_types_reading.proofs.ByName.{given_new, given_twice}
use Rattle.ls_types_reading.proofs.by_name.give.Goals as goal

pub returns-then-contains_key-clause-given : goal.returns-then-contains_key-clause-given
returns-then-contains_key-clause-given g c = given_twice c.args.values.now.entries c.args.name.now c.args.value
    c.if-contains_key.ensures

pub returns-clause-given : goal.returns-clause-given
returns-clause-given g c =
    given_new c.args.values.now.entries c.insert.new.self.entries c.in_ok-from_str.field-0 c.args.name.now c.args.value
    (search rules)
    c.if-contains_key.ensures c.in_ok-insert.ensures.entries
