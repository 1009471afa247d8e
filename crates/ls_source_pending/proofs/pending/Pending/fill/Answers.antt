-- Why `Pending::fill` in src/operands.rt keeps its contract and what it calls with.

use Rattle.ls_source_pending.proofs.pending.Pending.fill.Goals as goal

pub index-requires : goal.index-requires
index-requires c = c.requires

pub right-requires : goal.right-requires
right-requires c = c.requires

pub begin_call-requires : goal.begin_call-requires
begin_call-requires c = c.requires

pub begin_make-requires : goal.begin_make-requires
begin_make-requires c = c.requires

pub write_mark-requires : goal.write_mark-requires
write_mark-requires c = c.requires

pub returns-in-Field : goal.returns-in-Field
returns-in-Field c = rw c.in-Field.is c.read_field.ensures

pub returns-in-Item : goal.returns-in-Item
returns-in-Item c = rw c.in-Item.is c.index.ensures

pub returns-in-Index : goal.returns-in-Index
returns-in-Index c = rw c.in-Index.is c.read_item.ensures

pub returns-in-Negate : goal.returns-in-Negate
returns-in-Negate c = rw c.in-Negate.is (rw c.negated.ensures at c.gives.ensures)

pub returns-in-Not : goal.returns-in-Not
returns-in-Not c = rw c.in-Not.is (rw c.truth_of.ensures at c.gives-in-Not.ensures)

pub returns-in-Length : goal.returns-in-Length
returns-in-Length c = rw c.in-Length.is c.make_array.ensures

pub returns-in-Left : goal.returns-in-Left
returns-in-Left c = rw c.in-Left.is c.right.ensures

pub returns-in-Right : goal.returns-in-Right
returns-in-Right c = rw c.in-Right.is c.compute.ensures

pub returns-in-And : goal.returns-in-And
returns-in-And c = rw c.in-And.is c.right_of_and.ensures

pub returns-in-Or : goal.returns-in-Or
returns-in-Or c = rw c.in-Or.is c.right_of_or.ensures

pub returns-in-Target : goal.returns-in-Target
returns-in-Target c = rw c.in-Target.is c.begin_call.ensures

pub returns-in-Made : goal.returns-in-Made
returns-in-Made c = rw c.in-Made.is c.begin_make.ensures

pub returns-in-Constructor : goal.returns-in-Constructor
returns-in-Constructor c = rw c.in-Constructor.is c.gives-in-Constructor.ensures

pub returns-in-Reference : goal.returns-in-Reference
returns-in-Reference c = rw c.in-Reference.is (rw c.reference_of.ensures at c.gives-in-Reference.ensures)

pub returns-in-Mark : goal.returns-in-Mark
returns-in-Mark c = rw c.in-Mark.is (rw c.mark_of.ensures at c.gives-in-Mark.ensures)

pub returns-in-Both : goal.returns-in-Both
returns-in-Both c = rw c.in-Both.is c.write_mark.ensures

pub returns-in-Written : goal.returns-in-Written
returns-in-Written c = rw c.in-Written.is (rw c.reference_of-in-Written.ensures at c.gives-in-Written.ensures)
