-- The access that a move is.
use Rattle.std.specs.Prelude.{Option, None}
use Rattle.ls_meaning.specs.Store.{Store}
use Rattle.ls_transitions.specs.declared.moves.Move.{Move}
use Rattle.ls_transitions.specs.declared.moves.Move.TheVariants as moves
use Rattle.ls_race_laws.specs.declared.access.Access.{Access}
use Rattle.ls_race_laws.specs.Accesses.{Volatile, access_of}

abbrev pub access_in : Volatile → Store → Move → Option Access
access_in volatile s moves.Ended = None
access_in volatile s moves.Trapped = None
access_in volatile s moves.Waits = None
access_in volatile s (moves.Acts step) = access_of volatile s step.action
