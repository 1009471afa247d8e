-- What the loop `method` of `all_fit` in src/lower.rt keeps.

use Rattle.ls_lowered.specs.Limits.{most_locals}
use Rattle.std.proofs.Common.{◌≤◌, take}
use Rattle.std.specs.Prelude.{All}
use Rattle.ls_checked.specs.Plain.{plain_method as checked_method}
use Rattle.ls_refs.specs.Temporaries.{locals_of}
use Rattle.ls_refs.proofs.lower.all_fit.Given as goal

abbrev pub invariant-loop-method : goal.invariant-loop-method
invariant-loop-method l = All (λ m. locals_of (checked_method m) ≤ most_locals) (take l.method-index l.methods)
