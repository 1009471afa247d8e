-- Why `up_to` in src/arguments.rt keeps its clause `is`.

use Rattle.std.proofs.Common.{sym}
use Rattle.std.proofs.lemmas.List.{take-map}
use Rattle.ls_items.specs.Cutting.{plain_text}
use Rattle.ls_class_programs.proofs.arguments.up_to.Goals as goal

pub returns-clause-is : goal.returns-clause-is
returns-clause-is c = sym (take-map plain_text c.args.most _)
