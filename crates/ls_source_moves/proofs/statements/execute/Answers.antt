-- Why `execute` in src/statements.rt keeps its contract and what it calls with.

use Rattle.ls_source_moves.proofs.statements.execute.Goals as goal

pub wait_or_go-requires : goal.wait_or_go-requires
wait_or_go-requires c = c.requires

pub target_of_write-requires : goal.target_of_write-requires
target_of_write-requires c = c.requires

pub wait_or_go-requires-in-AddField : goal.wait_or_go-requires-in-AddField
wait_or_go-requires-in-AddField c = c.requires

pub wait_or_go-requires-in-SetItem : goal.wait_or_go-requires-in-SetItem
wait_or_go-requires-in-SetItem c = c.requires

pub wait-requires : goal.wait-requires
wait-requires c = c.requires

pub wait_or_go-requires-in-If : goal.wait_or_go-requires-in-If
wait_or_go-requires-in-If c = c.requires

pub wait_or_go-requires-in-While : goal.wait_or_go-requires-in-While
wait_or_go-requires-in-While c = c.requires

pub wait_or_go-requires-in-ReturnValue : goal.wait_or_go-requires-in-ReturnValue
wait_or_go-requires-in-ReturnValue c = c.requires

pub guard-requires : goal.guard-requires
guard-requires c = c.requires

pub returns-in-SetSlot : goal.returns-in-SetSlot
returns-in-SetSlot c = rw c.in-SetSlot.is c.wait_or_go.ensures

pub returns-in-SetField : goal.returns-in-SetField
returns-in-SetField c = rw c.in-SetField.is c.target_of_write.ensures

pub returns-in-AddField : goal.returns-in-AddField
returns-in-AddField c = rw c.in-AddField.is c.wait_or_go-in-AddField.ensures

pub returns-in-SetItem : goal.returns-in-SetItem
returns-in-SetItem c = rw c.in-SetItem.is c.wait_or_go-in-SetItem.ensures

pub returns-in-Evaluate : goal.returns-in-Evaluate
returns-in-Evaluate c = rw c.in-Evaluate.is c.wait.ensures

pub returns-in-If : goal.returns-in-If
returns-in-If c = rw c.in-If.is (rw (c.deref-in-If.ensures, c.deref-in-If-2.ensures) at c.wait_or_go-in-If.ensures)

pub returns-in-While : goal.returns-in-While
returns-in-While c = rw c.in-While.is (rw c.deref-in-While.ensures at c.wait_or_go-in-While.ensures)

pub returns-in-Break : goal.returns-in-Break
returns-in-Break c = rw c.in-Break.is c.end_anyhow.ensures

pub returns-in-Continue : goal.returns-in-Continue
returns-in-Continue c = rw c.in-Continue.is c.end_anyhow-in-Continue.ensures

pub returns-in-ReturnNothing : goal.returns-in-ReturnNothing
returns-in-ReturnNothing c = rw c.in-ReturnNothing.is c.end_anyhow-in-ReturnNothing.ensures

pub returns-in-ReturnValue : goal.returns-in-ReturnValue
returns-in-ReturnValue c = rw c.in-ReturnValue.is c.wait_or_go-in-ReturnValue.ensures

pub returns-in-Try : goal.returns-in-Try
returns-in-Try c = rw c.in-Try.is (rw (c.deref-in-Try.ensures, c.deref-in-Try-2.ensures) at c.guard.ensures)
