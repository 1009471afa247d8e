-- What the loop `m` of `lock_of` in src/reasons.rt keeps.

use Rattle.std.proofs.Common.{drop, ℕ}
use Rattle.ls_checked.specs.Plain.{plain_file}
use Rattle.ls_guarded.specs.Marks.{EachOf}
use Rattle.ls_guarded.specs.Reasons.{HasLock}
use Rattle.ls_guarded.proofs.reasons.lock_of.Given as goal

abbrev pub invariant-loop-m : goal.invariant-loop-m
invariant-loop-m l =
    EachOf (λ m. (c f : ℕ) → ¬ HasLock (plain_file l.file) c f m) (drop l.m-index l.methods) →
    EachOf (λ m. (c f : ℕ) → ¬ HasLock (plain_file l.file) c f m) l.methods
