-- What the loop `field` of `push_field_rows` in src/graphs.rt keeps.

use Rattle.std.proofs.Common.{◌≡◌, ◌++◌, drop, string_bytes}
use Rattle.ls_state.specs.Parts.{numbered}
use Rattle.ls_state.specs.Drawing.{field_row}
use Rattle.ls_state.specs.Seen.{names_in}
use Rattle.ls_state.proofs.graphs.push_field_rows.Given as goal

abbrev pub invariant-loop-field : goal.invariant-loop-field
invariant-loop-field l =
    string_bytes l.out ++ numbered (field_row (names_in l.scene) l.scene.labels.items l.object) l.field
    (drop l.field l.fields)
    ≡ string_bytes l.fn.out ++ numbered (field_row (names_in l.scene) l.scene.labels.items l.object) 0 l.fields
