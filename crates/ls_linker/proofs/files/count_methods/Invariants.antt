-- What the loop `method` of `count_methods` in src/files.rt keeps.

use Rattle.std.proofs.Common.{◌≡◌, ◌≤◌, map, take}
use Rattle.std.specs.Prelude.{All}
use Rattle.ls_lowered.specs.Plain.{plain_statement}
use Rattle.ls_linker.specs.Costs.{copied, counted_size}
use Rattle.ls_linker.proofs.files.count_methods.Given as goal

abbrev pub invariant-loop-method : goal.invariant-loop-method
invariant-loop-method l =
    (l.out.items ≡ map (λ m. counted_size (plain_statement m.body)) (take l.method-index l.methods)) ×
    All (λ m. copied (plain_statement m.body) ≤ 4096) (take l.method-index l.methods)
