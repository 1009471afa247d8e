-- What contracts see of the methods of a file.
use Rattle.std.specs.Global.{Vec}
use Rattle.std.specs.Prelude.{ℕ, map}
use Rattle.ls_checked.specs.Plain.{plain_method}
use Rattle.ls_checked.specs.declared.tree.Method.{Method}
use Rattle.ls_types_elaboration.specs.Elaboration as elaboration

-- the methods of `count` classes
abbrev pub bodies_of : ℕ → Vec Method → elaboration.Bodies
bodies_of count methods = record { methods = map plain_method methods.items; own = count }
