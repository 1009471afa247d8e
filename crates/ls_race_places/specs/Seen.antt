-- What the code keeps and finds, in the definitions' words.
use Rattle.std.specs.Prelude.{◌≡◌, map, string_bytes}
use Rattle.ls_checked.specs.Plain.{plain_file}
use Rattle.ls_checked.specs.PlainProgram.{plain_program}
use Rattle.ls_labels.specs.declared.names.Names.{Names}
use Rattle.ls_source.specs.Shown.{progress_of}
use Rattle.ls_race_places.specs.Courses as courses
use Rattle.ls_race_places.specs.Sought as sought
use Rattle.ls_race_places.specs.Uses as uses
use Rattle.ls_race_places.specs.declared.courses.Course.{Course}
use Rattle.ls_race_places.specs.declared.sought.Seen.{Seen}
use Rattle.ls_race_places.specs.declared.sought.Seen.TheVariants as seen
use Rattle.ls_race_places.specs.declared.uses.Use.{Use}

abbrev pub use_of : Use → uses.Use
use_of u = record { member = string_bytes u.member; line = u.line; reads = u.reads; writes = u.writes }

abbrev pub seen_of : Seen → sought.Seen
seen_of seen.Nowhere = sought.Nowhere
seen_of (seen.OnLine member line) = sought.OnLine (string_bytes member) line
seen_of (seen.Within member) = sought.Within (string_bytes member)
seen_of seen.Several = sought.Several

abbrev pub course_of : Course → courses.Course
course_of c = record {
  state = (progress_of c.run).state;
  labels = c.labels.items;
  methods = map string_bytes c.methods.items;
}

-- the run is one of the file and the program of the names
pub record RunsOf (names : Names) (c : Course) : Type 0 where
  pub file : (progress_of c.run).file ≡ plain_file names.file.now
  pub program : (progress_of c.run).program ≡ plain_program names.program.now
