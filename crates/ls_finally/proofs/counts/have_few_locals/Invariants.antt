-- What the loop `method` of `have_few_locals` in src/counts.rt keeps.

use Rattle.ls_lowered.specs.Limits.{most_locals}
use Rattle.std.proofs.Common.{◌≤◌, take}
use Rattle.std.specs.Prelude.{All}
use Rattle.ls_lowered.specs.Plain.{plain_method}
use Rattle.ls_finally.specs.Counts.{locals_of}
use Rattle.ls_finally.proofs.counts.have_few_locals.Given as goal

abbrev pub invariant-loop-method : goal.invariant-loop-method
invariant-loop-method l = All (λ m. locals_of (plain_method m) ≤ most_locals) (take l.method-index l.methods)
