-- What is said of room has at most one proof. So it follows if the code merely runs as its source.
use Rattle.std.proofs.Common.{◌≡◌, Bool, false, ℕ, refl}
use Rattle.std.proofs.Props.{props}
use Rattle.std.specs.Coded.{Coded-set, coded_bool}
use Rattle.ls_checked.specs.CheckedTree.{File}
use Rattle.ls_checked.specs.CheckedProgram.{Program}
use Rattle.ls_meaning.specs.Runs.{Step}
use Rattle.ls_meaning.specs.Still.{IsActing}
use Rattle.ls_meaning.specs.declared.step.Did.{Did}
use Rattle.ls_meaning.specs.declared.step.Did.TheVariants as did
use Rattle.ls_code.specs.Code.{Code}
use Rattle.ls_preservation.specs.Acting.{has_room}
use Rattle.ls_explore.specs.Room.{LacksRoom, StaysWithin, StopsForRoom}

acting_prop : (d : Did) → IsProp (IsActing d)
acting_prop (did.Acted action answer) = λ a b. refl
acting_prop did.Waits = λ a b. absurd a
acting_prop did.Idle = λ a b. absurd a

none_prop : (b : Bool) → IsProp (b ≡ false)
none_prop b = Coded-set coded_bool b false

lacks_prop : (program : Program) (cells : ℕ) (next : Step) → IsProp (LacksRoom program cells next)
lacks_prop program cells next = hlevel (acting_prop next.did, none_prop (has_room program cells next.after))

pub within_prop : (file : File) (program : Program) (code : Code) → IsProp (StaysWithin file program code)
within_prop file program code = hlevel props

pub stops_prop : (file : File) (program : Program) (code : Code) → IsProp (StopsForRoom file program code)
stops_prop file program code = hlevel (lacks_prop)
