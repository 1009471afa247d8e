-- Constants of threads, one thread after another.
use Rattle.std.specs.Prelude.{List, [], ◌∷◌}
use Rattle.ls_checked.specs.CheckedProgram.{ThreadProgram}
use Rattle.ls_meaning.specs.Constants.{CallsHaveConstants}

abbrev pub ThreadsHaveConstants : List ThreadProgram → Type 0
ThreadsHaveConstants [] = Unit {0}
ThreadsHaveConstants (t ∷ threads) = CallsHaveConstants t.calls × ThreadsHaveConstants threads
