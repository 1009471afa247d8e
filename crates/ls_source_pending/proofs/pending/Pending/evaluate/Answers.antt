-- Why `Pending::evaluate` in src/expressions.rt keeps its contract and what it calls with.

use Rattle.ls_source_pending.proofs.pending.Pending.evaluate.Goals as goal

pub target-requires : goal.target-requires
target-requires c = c.requires

pub array-requires : goal.array-requires
array-requires c = c.requires

pub operand-requires : goal.operand-requires
operand-requires c = c.requires

pub operand-requires-in-Not : goal.operand-requires-in-Not
operand-requires-in-Not c = c.requires

pub left-requires : goal.left-requires
left-requires c = c.requires

pub left_of_and-requires : goal.left_of_and-requires
left_of_and-requires c = c.requires

pub left_of_or-requires : goal.left_of_or-requires
left_of_or-requires c = c.requires

pub object-requires : goal.object-requires
object-requires c = c.requires

pub make_markable-requires : goal.make_markable-requires
make_markable-requires c = c.requires

pub make_object-requires : goal.make_object-requires
make_object-requires c = c.requires

pub operand-requires-in-MakeArray : goal.operand-requires-in-MakeArray
operand-requires-in-MakeArray c = c.requires

pub returns-in-Literal : goal.returns-in-Literal
returns-in-Literal c = rw c.in-Literal.is c.gives.ensures

pub returns-in-Slot : goal.returns-in-Slot
returns-in-Slot c = rw c.in-Slot.is (rw (c.value_at-v.ensures, c.deref.ensures.value) at c.gives-in-Slot.ensures)

pub returns-in-Field : goal.returns-in-Field
returns-in-Field c = rw c.in-Field.is (rw c.deref-in-Field.ensures at c.target.ensures)

pub returns-in-Item : goal.returns-in-Item
returns-in-Item c = rw c.in-Item.is (rw (c.deref-in-Item-2.ensures, c.deref-in-Item.ensures) at c.array.ensures)

pub returns-in-Negate : goal.returns-in-Negate
returns-in-Negate c = rw c.in-Negate.is (rw c.deref-in-Negate.ensures at c.operand.ensures)

pub returns-in-Not : goal.returns-in-Not
returns-in-Not c = rw c.in-Not.is (rw c.deref-in-Not.ensures at c.operand-in-Not.ensures)

pub returns-in-Binary : goal.returns-in-Binary
returns-in-Binary c = rw c.in-Binary.is (rw (c.deref-in-Binary-2.ensures, c.deref-in-Binary.ensures) at c.left.ensures)

pub returns-in-And : goal.returns-in-And
returns-in-And c = rw c.in-And.is (rw (c.deref-in-And-2.ensures, c.deref-in-And.ensures) at c.left_of_and.ensures)

pub returns-in-Or : goal.returns-in-Or
returns-in-Or c = rw c.in-Or.is (rw (c.deref-in-Or-2.ensures, c.deref-in-Or.ensures) at c.left_of_or.ensures)

pub returns-in-Call : goal.returns-in-Call
returns-in-Call c = rw c.in-Call.is (rw (c.deref-in-Call-2.ensures, c.deref-in-Call.ensures) at c.object.ensures)

pub returns-in-MakeObject : goal.returns-in-MakeObject
returns-in-MakeObject c = rw c.in-MakeObject.is (rw c.deref-in-MakeObject.ensures at c.make_object.ensures)

pub returns-in-MakeLock : goal.returns-in-MakeLock
returns-in-MakeLock c = rw c.in-MakeLock.is c.asks.ensures

pub returns-in-MakeMarkable : goal.returns-in-MakeMarkable
returns-in-MakeMarkable c = rw c.in-MakeMarkable.is (rw c.deref-in-MakeMarkable.ensures at c.make_markable.ensures)

pub returns-in-MakeArray : goal.returns-in-MakeArray
returns-in-MakeArray c = rw c.in-MakeArray.is (rw c.deref-in-MakeArray.ensures at c.operand-in-MakeArray.ensures)
