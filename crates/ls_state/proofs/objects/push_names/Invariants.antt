-- What the loop `number` of `push_names` in src/objects.rt keeps.

use Rattle.std.proofs.Common.{◌≡◌, ◌++◌, drop, map, string_bytes}
use Rattle.ls_checked.specs.PlainProgram.{plain_name}
use Rattle.ls_state.specs.Parts.{numbered}
use Rattle.ls_state.specs.Objects.{name_line}
use Rattle.ls_state.specs.Seen.{names_in, scene_seen}
use Rattle.ls_state.proofs.objects.push_names.Given as goal

abbrev pub invariant-loop-number : goal.invariant-loop-number
invariant-loop-number l =
    string_bytes l.out ++ numbered (name_line (names_in l.scene) l.scene.labels.items (scene_seen l.scene).state.store)
    l.number (map plain_name (drop l.number l.names))
    ≡ string_bytes l.fn.out ++ numbered (name_line (names_in l.scene) l.scene.labels.items
    (scene_seen l.scene).state.store) 0 (map plain_name l.names)
