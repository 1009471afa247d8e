-- What the loop `class` of `sizes_of` in src/link_units.rt keeps.

use Rattle.std.proofs.Common.{◌≡◌, map, take}
use Rattle.ls_checked.specs.Plain.{plain_class}
use Rattle.ls_linker.specs.Linked.{class_size}
use Rattle.ls_linker.proofs.link_units.sizes_of.Given as goal

abbrev pub invariant-loop-class : goal.invariant-loop-class
invariant-loop-class l = l.sizes.items ≡ map class_size (map plain_class (take l.class-index l.classes))
