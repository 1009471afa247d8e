-- What the loop `place` of `each` in src/ranges.rt keeps.

use Rattle.std.proofs.Common.{◌≡◌, ◌≤◌, length, string_bytes, take}
use Rattle.ls_labels.specs.Names.{names_of}
use Rattle.ls_state.specs.Each.{after_step, each_from}
use Rattle.ls_state.specs.Scene.{scene_of}
use Rattle.ls_state.specs.Seen.{IsOwn, names_in, scene_seen}
use Rattle.ls_state.proofs.ranges.each.Given as goal

abbrev pub invariant-loop-place : goal.invariant-loop-place
invariant-loop-place l = record {
  within : l.place ≤ length l.steps;
  names : names_in l.scene ≡ names_of l.fn.names;
  own : IsOwn l.scene;
  scene : scene_seen l.scene ≡ scene_of (names_of l.fn.names) (take l.place l.steps);
  text : string_bytes l.out ≡ each_from (after_step l.form (names_of l.fn.names) l.steps) l.from l.place;
}
