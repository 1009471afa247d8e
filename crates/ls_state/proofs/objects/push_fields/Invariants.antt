-- What the loop `field` of `push_fields` in src/objects.rt keeps.

use Rattle.std.proofs.Common.{◌≡◌, ◌++◌, drop, string_bytes}
use Rattle.ls_state.specs.Parts.{numbered}
use Rattle.ls_state.specs.Objects.{field_part}
use Rattle.ls_state.specs.Seen.{names_in}
use Rattle.ls_state.proofs.objects.push_fields.Given as goal

abbrev pub invariant-loop-field : goal.invariant-loop-field
invariant-loop-field l =
    string_bytes l.out ++ numbered (field_part (names_in l.scene) l.scene.labels.items l.object) l.field
    (drop l.field l.fields)
    ≡ string_bytes l.fn.out ++ numbered (field_part (names_in l.scene) l.scene.labels.items l.object) 0 l.fields
