-- What the loop `method` of `most_operands` in src/machine.rt keeps.

use Rattle.std.proofs.Common.{ℕ, ◌<◌, ◌≤◌, slice_index_or}
use Rattle.ls_code.specs.declared.code.Method.{Method}
use Rattle.ls_machine.proofs.machine.most_operands.Given as goal

abbrev pub invariant-loop-method : goal.invariant-loop-method
invariant-loop-method l = (k : ℕ) (d : Method) → k < l.method-index → (slice_index_or l.methods k d).need ≤ l.most
