-- What the loop `field` of `push_field_arrows` in src/graphs.rt keeps.

use Rattle.std.proofs.Common.{◌≡◌, ◌++◌, drop, string_bytes}
use Rattle.ls_state.specs.Parts.{numbered}
use Rattle.ls_state.specs.Drawing.{field_arrow}
use Rattle.ls_state.proofs.graphs.push_field_arrows.Given as goal

abbrev pub invariant-loop-field : goal.invariant-loop-field
invariant-loop-field l =
    string_bytes l.out ++ numbered (field_arrow l.object) l.field (drop l.field l.fields)
    ≡ string_bytes l.fn.out ++ numbered (field_arrow l.object) 0 l.fields
