-- What the loop `value` of `name_no_object` in src/arrays.rt keeps.

use Rattle.ls_renaming.specs.Nameless.{NameNoObject}
use Rattle.ls_renaming.proofs.arrays.name_no_object.Given as goal

abbrev pub invariant-loop-value : goal.invariant-loop-value
invariant-loop-value l = NameNoObject l.value-iterator → NameNoObject l.items.entries
