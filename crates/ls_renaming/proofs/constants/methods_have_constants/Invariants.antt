-- What the loop `method` of `methods_have_constants` in src/constants.rt keeps.

use Rattle.std.proofs.Common.{drop, map}
use Rattle.ls_checked.specs.Plain.{plain_method}
use Rattle.ls_renaming.specs.Constants.{MethodsHaveConstants}
use Rattle.ls_renaming.proofs.constants.methods_have_constants.Given as goal

abbrev pub invariant-loop-method : goal.invariant-loop-method
invariant-loop-method l =
    MethodsHaveConstants (map plain_method (drop l.method-index l.methods)) →
    MethodsHaveConstants (map plain_method l.methods)
