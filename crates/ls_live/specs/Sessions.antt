-- The machine of a session for which no machine has been chosen.
use Rattle.std.specs.Prelude.{[]}
use Rattle.ls_code.specs.Code.{Code}
use Rattle.ls_code.specs.Machine.{Machine, loaded}

abbrev pub no_code : Code
no_code = record { instructions = []; handlers = []; methods = []; sizes = []; starts = []; names = 0 }

abbrev pub no_machine : Machine
no_machine = loaded no_code 0
