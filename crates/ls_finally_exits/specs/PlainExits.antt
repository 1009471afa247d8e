-- The exits of the code as plain data.
use Rattle.std.specs.Prelude.{List, map}
use Rattle.ls_finally_exits.specs.declared.exits.Exit.{Exit}
use Rattle.ls_finally_exits.specs.declared.exits.Exit.TheVariants.{Leave, Return}
use Rattle.ls_finally_exits.specs.Exits as specs

abbrev pub plain_exit : Exit → specs.Exit
plain_exit (Leave n) = specs.LeaveOut n
plain_exit Return = specs.ReturnOut

abbrev pub plain_exits : List Exit → List specs.Exit
plain_exits xs = map plain_exit xs
