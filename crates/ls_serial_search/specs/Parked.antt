-- Runs that stand after schedules.
use Rattle.std.specs.Prelude.{ℕ, List, ◌++◌, Option, Some, None, replicate}
use Rattle.std.specs.List.{AllZip}
use Rattle.ls_checked.specs.CheckedTree.{File}
use Rattle.ls_checked.specs.CheckedProgram.{Program}
use Rattle.ls_source.specs.declared.playing.Playing.{Playing}
use Rattle.ls_source.specs.Stands.{StandsFor}
use Rattle.ls_serial_search.specs.Orders.{progress_at}
use Rattle.ls_serial_search.specs.declared.following.Followed.{Followed}
use Rattle.ls_serial_search.specs.declared.following.Followed.TheVariants as followed

module _ (file : File) (program : Program) where
  -- where the call of a thread ends, the run that followed it stands behind its last step
  abbrev pub StandsBehind : List ℕ → ℕ → Followed → Playing → Type 0
  StandsBehind schedule thread (followed.Ends steps) r =
      StandsFor r (progress_at file program (schedule ++ replicate steps thread))
  StandsBehind schedule thread _ r = Unit {0}

  -- the run after a schedule, where it is parked
  abbrev pub IsParked : List ℕ → Option Playing → Type 0
  IsParked schedule None = Unit {0}
  IsParked schedule (Some r) = StandsFor r (progress_at file program schedule)

  -- so it is of each of these schedules
  abbrev pub AreParked : List (List ℕ) → List (Option Playing) → Type 0
  AreParked schedules runs = AllZip IsParked schedules runs
