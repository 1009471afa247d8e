-- What the loop `i` of `check_calls` in src/checking.rt keeps.

use Rattle.std.proofs.Common.{◌<◌, ℕ}
use Rattle.ls_image.specs.Images.{Compiles}
use Rattle.ls_image.specs.declared.image.Image.{Image}
use Rattle.ls_class_programs.specs.Entries.{program_of_entry}
use Rattle.ls_class_programs.proofs.checking.check_calls.Given as goal

abbrev pub invariant-loop-i : goal.invariant-loop-i
invariant-loop-i l =
    (k : ℕ) → k < l.i → (image : Image) × Compiles l.classes (program_of_entry l.making k l.entry) image
