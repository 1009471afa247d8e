-- Why `push_method` in src/names.rt adds the name of the method: of what is read from a list, it takes the element.

use Rattle.std.proofs.Common.{arith}
use Rattle.std.proofs.lemmas.Grind.{elements}
use Rattle.ls_labels.proofs.names.push_method.Goals as goal

pub returns-in_default : goal.returns-in_default
returns-in_default c = grind (arith, elements)

pub returns-in_default-get : goal.returns-in_default-get
returns-in_default-get c = grind (arith, elements)

pub returns-in_ok-push-in-Some-method_found : goal.returns-in_ok-push-in-Some-method_found
returns-in_ok-push-in-Some-method_found c = grind (arith, elements)

pub returns-in-None : goal.returns-in-None
returns-in-None c = grind (arith, elements)
