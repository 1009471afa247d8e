-- What the loop `method` of `lower_methods` in src/files.rt keeps.

use Rattle.std.proofs.Common.{◌≤◌, take}
use Rattle.std.specs.Prelude.{All}
use Rattle.ls_lowered.specs.Plain.{plain_method}
use Rattle.ls_finally.specs.Flat.{flat_method}
use Rattle.ls_finally.specs.Counts.{copies_of}
use Rattle.ls_finally.proofs.InPlace.{Changed}
use Rattle.ls_finally.proofs.files.lower_methods.Given as goal

abbrev pub invariant-loop-method : goal.invariant-loop-method
invariant-loop-method l =
    Changed plain_method (λ m. flat_method (plain_method m)) l.initial.methods l.methods l.method-index ×
    All (λ m. copies_of (plain_method m) ≤ 4096) (take l.method-index l.initial.methods)
