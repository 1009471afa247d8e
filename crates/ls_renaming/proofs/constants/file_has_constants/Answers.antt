-- Why `file_has_constants` in src/constants.rt keeps its contract.

use Rattle.std.proofs.Common.{map, subst}
use Rattle.ls_checked.specs.Plain.{plain_file, plain_method}
use Rattle.ls_renaming.specs.Constants.{MethodsHaveConstants}
use Rattle.ls_renaming.proofs.Lists.{file_constants}
use Rattle.ls_renaming.proofs.constants.file_has_constants.Goals as goal

pub returns : goal.returns
returns c = λ yes.
    file_constants (plain_file c.args.file.now)
    (subst (λ ms. MethodsHaveConstants (map plain_method ms)) c.deref.ensures.value
    (c.methods_have_constants.ensures yes))
