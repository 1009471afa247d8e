-- What holds after a schedule.
use Rattle.std.specs.Prelude.{ℕ, List, ◌++◌}
use Rattle.ls_report.specs.Events.{Text}
use Rattle.ls_labels.specs.Names.{Names}
use Rattle.ls_state.specs.Parts.{numbered}
use Rattle.ls_state.specs.Scene.{Scene, scene_of}
use Rattle.ls_state.specs.Objects.{thing_line, name_line}
use Rattle.ls_state.specs.Asking.{thread_line}

-- each object, from number 1 on
abbrev pub things_text : Names → Scene → Text
things_text names scene = numbered (thing_line names scene.labels) 1 scene.state.store.things

-- each setup name
abbrev pub names_text : Names → Scene → Text
names_text names scene = numbered (name_line names scene.labels scene.state.store) 0 names.program.names

-- each thread, the setup first
abbrev pub threads_text : Names → Scene → Text
threads_text names scene = numbered (thread_line names scene) 0 names.program.threads

abbrev pub lines_of : Names → Scene → Text
lines_of names scene = things_text names scene ++ (names_text names scene ++ threads_text names scene)

-- a line for each object, then each setup name, then each thread
abbrev pub state_text : Names → List ℕ → Text
state_text names schedule = lines_of names (scene_of names schedule)
