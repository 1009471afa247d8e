-- What is told of the data races of a program.
use Rattle.std.specs.Prelude.{◌≡◌, ◌≢◌, ◌≤◌, ◌+◌, ℕ, true, List, [], ◌∷◌, ◌++◌, Some, length, map, slice_get}
use Rattle.ls_events.specs.Limits.{most_steps}
use Rattle.ls_checked.specs.CheckedTree.{File}
use Rattle.ls_checked.specs.CheckedProgram.{Program}
use Rattle.ls_graph.specs.Costs.{costs}
use Rattle.ls_graph.specs.declared.costs.Counted.TheVariants as counted
use Rattle.ls_search_laws.specs.Stepping.{ActAll}
use Rattle.ls_race_laws.specs.Accesses.{Volatile}
use Rattle.ls_race_laws.specs.Meeting.{MeetsAfter}
use Rattle.ls_race_laws.specs.Ordered.{IsRace}
use Rattle.ls_race_laws.specs.declared.access.Kind.{Kind}
use Rattle.ls_races.specs.declared.finding.Race.{Race}

-- none of these is the kind
abbrev pub IsUntold : List Kind → Kind → Type 0
IsUntold told on = (i : ℕ) (k : Kind) → slice_get told i ≡ Some k → k ≢ on

-- After these steps two threads are about to access one variable, of a kind that wasn't told, and the steps with both
-- accesses after them are the schedule. It is told of a number whether all schedules to such accesses have at least so
-- many changes of thread: so it is of those before the accesses, where they are the fewest.
pub record IsRaceBy (AtLeast : ℕ → Type 0) (volatile : Volatile) (told : List Kind) (file : File) (program : Program)
    (r : Race) : Type 0 where
  pub before : List ℕ
  pub meets : MeetsAfter volatile file program before r.on
  pub steps : r.schedule ≡ before ++ meets.one ∷ meets.other ∷ []
  pub acts : ActAll file program r.schedule
  pub short : length r.schedule ≤ most_steps
  pub untold : IsUntold told r.on
  -- happens-before doesn't order the accesses
  pub race : IsRace volatile file program (before ++ meets.one ∷ meets.other ∷ []) (length before) (length before + 1)
  pub fewest : r.fewest ≡ true → AtLeast (costs counted.Changes 0 before)

-- each schedule to accesses that meet on a variable of a kind that wasn't told has at least so many changes of thread
abbrev pub HaveAtLeast : Volatile → List Kind → File → Program → ℕ → Type 0
HaveAtLeast volatile told file program count =
    (s : List ℕ) (on : Kind) → MeetsAfter volatile file program s on → IsUntold told on →
    count ≤ costs counted.Changes 0 s

abbrev pub IsRaceOf : Volatile → List Kind → File → Program → Race → Type 0
IsRaceOf volatile told file program r =
    IsRaceBy (HaveAtLeast volatile told file program) volatile told file program r

-- whatever accesses meet, after whatever schedule, meet on a variable of one of these kinds
abbrev pub AllAreOn : Volatile → List Kind → File → Program → Type 0
AllAreOn volatile told file program =
    (schedule : List ℕ) (on : Kind) → MeetsAfter volatile file program schedule on → IsUntold told on → ⊥

-- Each is a race, on a variable of another kind than those before it.
abbrev pub AreRaces : Volatile → List Kind → File → Program → List Race → Type 0
AreRaces volatile told file program [] = Unit {0}
AreRaces volatile told file program (r ∷ rs) =
    IsRaceOf volatile told file program r × AreRaces volatile (told ++ r.on ∷ []) file program rs

abbrev pub kinds_of : List Race → List Kind
kinds_of races = map (λ r. r.on) races
