-- How many states a search for data races has kept, and why it may not be whole.
use Rattle.std.specs.Prelude.{◌≡◌, ◌⊎◌, ◌<◌, ◌≤◌, ◌+◌, ℕ, Bool, true, false, List, length}
use Rattle.ls_events.specs.Limits.{most_steps}
use Rattle.ls_checked.specs.CheckedTree.{File}
use Rattle.ls_checked.specs.CheckedProgram.{Program}
use Rattle.ls_search.specs.Verdicts.{AreAll, AreReached, IsCut}
use Rattle.ls_search_laws.specs.Stepping.{ActAll}
use Rattle.ls_race_laws.specs.Accesses.{Volatile}
use Rattle.ls_race_laws.specs.Meeting.{MeetsAfter}
use Rattle.ls_race_laws.specs.declared.access.Kind.{Kind}
use Rattle.ls_races.specs.Races.{IsUntold}

-- After these steps, each of which acts, two threads are about to access one variable, of a kind that wasn't told. With
-- both accesses they are more than a schedule may have.
pub record MeetsLate (volatile : Volatile) (told : List Kind) (file : File) (program : Program) : Type 0 where
  pub before : List ℕ
  pub acts : ActAll file program before
  pub on : Kind
  pub meets : MeetsAfter volatile file program before on
  pub untold : IsUntold told on
  pub long : most_steps < length before + 2

-- At most so many states were kept. There are as many schedules: each goes on from an earlier one by steps of a thread
-- that acts there, and no two from the same one by the same thread. If the search is whole, there are as many states
-- that threads don't leave, but for steps that no other thread notices and for names of objects. If it isn't, so many
-- were kept as may be, or they have over 4,194,304 objects together, or accesses meet too late for a schedule.
pub record IsRaceExtent (volatile : Volatile) (told : List Kind) (file : File) (program : Program) (limit states : ℕ)
    (complete : Bool) : Type 0 where
  pub within : states ≤ limit
  pub reached : AreReached file program 0 states
  pub all : complete ≡ true → AreAll file program 0 states
  pub cut : complete ≡ false → IsCut file program limit 0 states ⊎ MeetsLate volatile told file program
