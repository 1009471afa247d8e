-- Why `field_named` in src/known.rt keeps its clause `found`.

use Rattle.ls_types_tables.proofs.Keys.{field_there, field_missing}
use Rattle.ls_types_tables.proofs.known.field_named.Goals as goal

pub returns-in_err-number-clause-found : goal.returns-in_err-number-clause-found
returns-in_err-number-clause-found c =
    let e = field_missing c.args.fields.now.entries c.args.name.now c.in_err-number.ensures.index in cc

pub returns-clause-found : goal.returns-clause-found
returns-clause-found c =
    field_there c.args.fields.now.entries c.args.name.now c.in_ok-number.number c.in_ok-number.value_type.now
    c.in_ok-number.ensures.index c.in_ok-number.ensures.value
