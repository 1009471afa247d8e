-- What the loop `number` of `push_names` in src/graphs.rt keeps.

use Rattle.std.proofs.Common.{◌≡◌, ◌++◌, drop, map, string_bytes}
use Rattle.ls_checked.specs.PlainProgram.{plain_name}
use Rattle.ls_state.specs.Parts.{numbered}
use Rattle.ls_state.specs.Drawing.{drawn_name}
use Rattle.ls_state.specs.Seen.{scene_seen}
use Rattle.ls_state.proofs.graphs.push_names.Given as goal

abbrev pub invariant-loop-number : goal.invariant-loop-number
invariant-loop-number l =
    string_bytes l.out ++ numbered (drawn_name (scene_seen l.scene).state.store) l.number
    (map plain_name (drop l.number l.names))
    ≡ string_bytes l.fn.out ++ numbered (drawn_name (scene_seen l.scene).state.store) 0 (map plain_name l.names)
