-- How threads leave their seats.
use Rattle.std.specs.Prelude.{◌≡◌, ◌<◌, ℕ, List, [], ◌∷◌, length, Option, Some, None}
use Rattle.ls_live.specs.Turns.{TurnstileState, SeatState, IsSeatOf}
use Rattle.ls_live.specs.declared.follow.End.{End}
use Rattle.ls_live.specs.declared.follow.End.TheVariants.{Over, Spent, Stopped}
use Rattle.ls_live.specs.declared.follow_fault.FollowFault.{FollowFault}
use Rattle.ls_live.specs.declared.follow_fault.FollowFault.TheVariants.{Memory, NoThread, TurnsSpent}

-- what an end says: the tape is over, or the place is one of the tape
abbrev pub Ends : TurnstileState → SeatState → End → Type 0
Ends t c Over = c.seen ≡ length t.tape
Ends t c (Spent place) = place < length t.tape
Ends t c Stopped = Unit {0}

-- a seat of the turnstile, of this thread, with its end
abbrev pub Leaves : TurnstileState → ℕ → SeatState → End → Type 0
Leaves t thread c end = IsSeatOf t c × (c.thread ≡ thread) × Ends t c end

abbrev pub fault_of_end : End → Option FollowFault
fault_of_end Over = None
fault_of_end (Spent place) = Some (TurnsSpent place)
fault_of_end Stopped = Some NoThread

-- the place is one of the tape
abbrev pub IsFaultOf : TurnstileState → FollowFault → Type 0
IsFaultOf t (TurnsSpent place) = place < length t.tape
IsFaultOf t Memory = Unit {0}
IsFaultOf t NoThread = Unit {0}

-- why the tape is not at its end; a seat that got no thread counts first
abbrev pub fault_with : Option FollowFault → List SeatState → Option FollowFault
fault_with fault [] = fault
fault_with fault (c ∷ cs) = Some NoThread
