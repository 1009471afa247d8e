-- What the loop `file` of `add_files` in src/joining.rt keeps.

use Rattle.std.proofs.Common.{◌≡◌, drop, map}
use Rattle.ls_files.specs.Joining.{with_files}
use Rattle.ls_files.proofs.joining.add_files.Given as goal

abbrev pub invariant-loop-file : goal.invariant-loop-file
invariant-loop-file l =
    with_files l.input.items (map (λ f. f.items) (drop l.file-index l.files))
    ≡ with_files l.fn.input.items (map (λ f. f.items) l.files)
