-- Why `Methods::new` in src/methods.rt keeps its contract.

use Rattle.std.proofs.Common.{◌∙◌, ap, map}
use Rattle.ls_types_checked.specs.CheckedFile.{signs_of}
use Rattle.ls_types_reading.specs.MethodsByName.{declares}
use Rattle.ls_types_reading.proofs.ByName.{class_finds}
use Rattle.ls_types_reading.proofs.methods.Methods.new.Goals as goal

pub invariant_of-result : goal.invariant_of-result
invariant_of-result c = record {
  kept = class_finds c.in_ok-classes.classes.items (signs_of c.args.checked.now)
      (c.in_ok-classes.ensures ∙ ap (map declares) c.class_signs.ensures);
}
