-- What the code keeps of a run, in the definitions' words.
use Rattle.std.specs.Prelude.{◌≡◌}
use Rattle.ls_source.specs.Shown.{progress_of}
use Rattle.ls_labels.specs.Names as names
use Rattle.ls_state.specs.declared.scene.Scene.{Scene as KeptScene}
use Rattle.ls_state.specs.Scene.{Scene}

abbrev pub scene_seen : KeptScene → Scene
scene_seen s = record {
  state = (progress_of s.run).state;
  labels = s.labels.items;
  history = (progress_of s.run).history;
}

abbrev pub names_in : KeptScene → names.Names
names_in s = names.names_of s.names

-- the run is one of the program that the names are of
pub record IsOwn (s : KeptScene) : Type 0 where
  pub file : (progress_of s.run).file ≡ (names_in s).file
  pub program : (progress_of s.run).program ≡ (names_in s).program
