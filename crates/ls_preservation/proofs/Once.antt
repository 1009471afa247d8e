-- That a thread acts, or ends, in time has one proof at most.
use Rattle.std.proofs.Common.{◌≡◌, ℕ, zero, suc, Bool, true, refl}
use Rattle.std.specs.Coded.{Coded, Coded-set, coded_ℕ, coded_bool, code_by}
use Rattle.ls_checked.specs.CheckedTree.{File}
use Rattle.ls_checked.specs.CheckedProgram.{Program}
use Rattle.ls_meaning.specs.Threads.{Next, Goes, Ended, Trapped}
use Rattle.ls_meaning.specs.declared.step.Did.{Did as SourceDid}
use Rattle.ls_meaning.specs.declared.step.Did.TheVariants as source_did
use Rattle.ls_code.specs.Code.{Code}
use Rattle.ls_code.specs.declared.step.Did.{Did}
use Rattle.ls_code.specs.declared.step.ThreadState.{ThreadState}
use Rattle.ls_code.specs.declared.step.ThreadState.TheVariants as state
use Rattle.ls_preservation.specs.InTime.{StandsAs, EndsInTime}
use Rattle.ls_preservation.specs.Acting.{acts_or_stops, ActsAs, ActsInTime}

number : ThreadState → ℕ
number state.NotStarted = 0
number state.Running = 1
number state.Ended = 2
number state.Trapped = 3
number state.Stopped = 4

numbered : ℕ → ThreadState
numbered zero = state.NotStarted
numbered (suc zero) = state.Running
numbered (suc (suc zero)) = state.Ended
numbered (suc (suc (suc zero))) = state.Trapped
numbered _ = state.Stopped

back : (s : ThreadState) → numbered (number s) ≡ s
unfolding numbered number
back state.NotStarted = refl
back state.Running = refl
back state.Ended = refl
back state.Trapped = refl
back state.Stopped = refl

states_coded : Coded ThreadState
states_coded = code_by ℕ coded_ℕ number numbered back

stands_prop : (d : Next) (s : ThreadState) → IsProp (StandsAs d s)
stands_prop (Goes action sort) s = λ a b. refl
stands_prop Ended s = Coded-set states_coded s state.Ended
stands_prop Trapped s = Coded-set states_coded s state.Trapped

-- that threads end in time has at most one proof
pub ends_prop : (file : File) (program : Program) (code : Code) → IsProp (EndsInTime file program code)
ends_prop file program code = hlevel (stands_prop)

acts_prop : (room : Bool) (d : SourceDid) (first : Did) → IsProp (ActsAs room d first)
acts_prop room (source_did.Acted a y) first = Coded-set coded_bool (acts_or_stops room first) true
acts_prop room source_did.Waits first = λ a b. refl
acts_prop room source_did.Idle first = λ a b. refl

-- that threads act in time has at most one proof
pub acting_prop : (file : File) (program : Program) (code : Code) → IsProp (ActsInTime file program code)
acting_prop file program code = hlevel (acts_prop)
