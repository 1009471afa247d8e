-- What the code keeps of a run, in the definitions' words.
use Rattle.std.specs.Prelude.{◌≡◌}
use Rattle.ls_checked.specs.Plain.{plain_file}
use Rattle.ls_checked.specs.PlainProgram.{plain_program}
use Rattle.ls_source.specs.Shown.{progress_of}
use Rattle.ls_labels.specs.Names as names
use Rattle.ls_aim.specs.declared.runner.Runner.{Runner}
use Rattle.ls_aim.specs.declared.runner.Sight.{Sight as GivenSight}
use Rattle.ls_aim.specs.declared.runner.Sight.TheVariants as given
use Rattle.ls_aim.specs.Aims.{Arrived, GoesOn, Missed, Sight}
use Rattle.ls_aim.specs.Reading.{stop_of}
use Rattle.ls_aim.specs.Runs.{Run}

abbrev pub run_in : Runner → Run
run_in r = record { state = (progress_of r.run).state; labels = r.labels.items }

abbrev pub names_in : Runner → names.Names
names_in r = names.names_of r.names

-- the run is of the file and the program of the names
pub record RunsNamed (r : Runner) : Type 0 where
  pub file : (progress_of r.run).file ≡ plain_file r.names.file.now
  pub program : (progress_of r.run).program ≡ plain_program r.names.program.now

abbrev pub sight_of : GivenSight → Sight
sight_of given.Arrived = Arrived
sight_of (given.GoesOn stop) = GoesOn (stop_of stop)
sight_of (given.Missed f) = Missed f
