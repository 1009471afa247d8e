-- From where runs begin: the program as it stands, or with threads that begin their calls again.
use Rattle.std.specs.Prelude.{Bool, [], if◌then◌else◌}
use Rattle.ls_checked.specs.CheckedTree.{File}
use Rattle.ls_checked.specs.CheckedProgram.{Program}
use Rattle.ls_search_laws.specs.Configuration.{Configuration}
use Rattle.ls_progress_laws.specs.Again.{again_in}
use Rattle.ls_progress_laws.specs.Laws.{place_after}

-- the state, or that in which threads begin their calls again as they do before the first step
abbrev pub repeats : Bool → Configuration → Configuration → Configuration
repeats again root c = if again then again_in root.continues c else c

-- before the first step
abbrev pub root_of : Bool → File → Program → Configuration
root_of again file program = repeats again (place_after file program []) (place_after file program [])
