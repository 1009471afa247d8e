-- What the loop `value` of `Names::values` in src/names.rt keeps.

use Rattle.std.proofs.Common.{◌≡◌, take}
use Rattle.ls_works.specs.Frames.{renamed_values}
use Rattle.ls_renaming.specs.Seen.{names_of}
use Rattle.ls_renaming.proofs.names.Names.values.Given as goal

abbrev pub invariant-loop-value : goal.invariant-loop-value
invariant-loop-value l = l.renamed.items ≡ renamed_values (names_of l.self) (take l.value-index l.values)
