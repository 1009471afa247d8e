-- What the code keeps of a run, in the definitions' words.
use Rattle.std.specs.Prelude.{◌≡◌, All}
use Rattle.ls_checked.specs.Plain.{plain_file}
use Rattle.ls_checked.specs.PlainProgram.{plain_program}
use Rattle.ls_source.specs.Shown.{progress_of}
use Rattle.ls_labels.specs.Names as names
use Rattle.ls_trace.specs.declared.teller.Teller.{Teller}
use Rattle.ls_trace.specs.Told.{Told}
use Rattle.ls_trace.specs.Deeds.{IsOfKey}
use Rattle.ls_trace.specs.SeenTens.{IsWritten}

abbrev pub told_of : Teller → Told
told_of t = record { state = (progress_of t.run).state; labels = t.labels.items; calls = t.calls.items }

abbrev pub names_in : Teller → names.Names
names_in t = names.names_of t.names

-- the run is of the file and the program of the names, and the texts that are kept are of their keys
pub record RunsNamed (t : Teller) : Type 0 where
  pub file : (progress_of t.run).file ≡ plain_file t.names.file.now
  pub program : (progress_of t.run).program ≡ plain_program t.names.program.now
  pub texts : All (IsOfKey (names.names_of t.names)) t.heads.kept.items
  pub tens : IsWritten t.tens
