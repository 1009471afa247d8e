-- Why `go_on` in src/statements.rt keeps its contract and what it calls with.

use Rattle.std.proofs.Common.{arith}
use Rattle.ls_source_moves.proofs.statements.go_on.Goals as goal

pub put_off-requires : goal.put_off-requires
put_off-requires c = omega (arith, c.requires)

pub write_field-requires : goal.write_field-requires
write_field-requires c = omega (arith, c.requires)

pub put_off-requires-in-Array : goal.put_off-requires-in-Array
put_off-requires-in-Array c = omega (arith, c.requires)

pub put_off-requires-in-Index : goal.put_off-requires-in-Index
put_off-requires-in-Index c = omega (arith, c.requires)

pub write_item-requires : goal.write_item-requires
write_item-requires c = omega (arith, c.requires)

pub body-requires : goal.body-requires
body-requires c = c.requires

pub returns-in-Slot : goal.returns-in-Slot
returns-in-Slot c = rw c.in-Slot.is c.write_local.ensures

pub returns-in-Target : goal.returns-in-Target
returns-in-Target c = rw c.in-Target.is c.put_off.ensures

pub returns-in-Field : goal.returns-in-Field
returns-in-Field c = rw c.in-Field.is c.write_field.ensures

pub returns-in-Array : goal.returns-in-Array
returns-in-Array c = rw c.in-Array.is c.put_off-in-Array.ensures

pub returns-in-Index : goal.returns-in-Index
returns-in-Index c = rw c.in-Index.is c.put_off-in-Index.ensures

pub returns-in-Item : goal.returns-in-Item
returns-in-Item c = rw c.in-Item.is c.write_item.ensures

pub returns-in-Nothing : goal.returns-in-Nothing
returns-in-Nothing c = rw c.in-Nothing.is c.end_normally.ensures

pub returns-in-If : goal.returns-in-If
returns-in-If c = rw c.in-If.is c.branch-pending.ensures

pub returns-in-Return : goal.returns-in-Return
returns-in-Return c = rw c.in-Return.is c.end_anyhow.ensures
