-- Why `arguments_of` in src/arguments.rt keeps its clause `is`.

use Rattle.std.proofs.Common.{ap, map, sym}
use Rattle.ls_items.specs.Cutting.{plain_text}
use Rattle.ls_tree.specs.Views.{bare_type}
use Rattle.ls_class_programs.specs.Menus.{arguments_of}
use Rattle.ls_class_programs.proofs.arguments.arguments_of.Goals as goal

pub returns-in-Int-clause-is : goal.returns-in-Int-clause-is
returns-in-Int-clause-is c =
    sym (ap (λ t. arguments_of (map plain_text c.args.integers.now) (bare_type t)) c.in-Int.is)
