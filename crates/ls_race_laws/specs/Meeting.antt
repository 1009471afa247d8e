-- Next actions of two threads that conflict.
use Rattle.std.specs.Prelude.{◌≡◌, ◌≢◌, ℕ, List, Option, None, Some}
use Rattle.ls_checked.specs.CheckedTree.{File}
use Rattle.ls_checked.specs.CheckedProgram.{Program}
use Rattle.ls_meaning.specs.declared.step.Did.{Did}
use Rattle.ls_meaning.specs.declared.step.Did.TheVariants as did
use Rattle.ls_meaning.specs.Runs.{State, source_run, step}
use Rattle.ls_meaning.specs.Store.{Store}
use Rattle.ls_search_laws.specs.Configuration.{Configuration, stride}
use Rattle.ls_race_laws.specs.declared.access.Access.{Access}
use Rattle.ls_race_laws.specs.declared.access.Kind.{Kind}
use Rattle.ls_race_laws.specs.Accesses.{Conflict, Volatile, access_of}

-- the access of what a step did, or would do, at a store
abbrev pub access_by : Volatile → Store → Did → Option Access
access_by volatile s (did.Acted action answer) = access_of volatile s action
access_by volatile s did.Waits = None
access_by volatile s did.Idle = None

-- Two threads' next steps, each told by its number, are accesses at a store that conflict, to a variable of this kind.
pub record Meeting (volatile : Volatile) (s : Store) (next : ℕ → Did) (on : Kind) : Type 0 where
  pub one : ℕ
  pub other : ℕ
  pub apart : one ≢ other
  pub first : Access
  pub second : Access
  pub first_is : access_by volatile s (next one) ≡ Some first
  pub second_is : access_by volatile s (next other) ≡ Some second
  pub conflict : Conflict first second
  pub kind : first.kind ≡ on

abbrev pub Meets : Volatile → File → Configuration → Kind → Type 0
Meets volatile file c on = Meeting volatile c.store (λ u. (stride file c u).did) on

abbrev pub MeetsIn : Volatile → File → Program → State → Kind → Type 0
MeetsIn volatile file program s on = Meeting volatile s.store (λ u. (step file program s u).did) on

-- so it is after a schedule
abbrev pub MeetsAfter : Volatile → File → Program → List ℕ → Kind → Type 0
MeetsAfter volatile file program schedule on = MeetsIn volatile file program (source_run file program schedule) on

-- no schedule, of any length, is so
abbrev pub NeverMeets : Volatile → File → Program → Type 0
NeverMeets volatile file program = (schedule : List ℕ) (on : Kind) → MeetsAfter volatile file program schedule on → ⊥
