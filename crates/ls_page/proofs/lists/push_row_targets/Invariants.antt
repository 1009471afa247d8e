-- What the loop `place` of `push_row_targets` in src/lists.rt keeps.

use Rattle.std.proofs.Common.{◌≡◌, ◌++◌, drop, map, string_bytes}
use Rattle.ls_state.specs.Parts.{numbered}
use Rattle.ls_choices.specs.Seen.{row_of}
use Rattle.ls_page.specs.Lists.{element, number_text}
use Rattle.ls_page.proofs.lists.push_row_targets.Given as goal

abbrev pub invariant-loop-place : goal.invariant-loop-place
invariant-loop-place l =
    string_bytes l.out ++ numbered (element (λ row. number_text row.to)) l.place (map row_of (drop l.place l.rows))
    ≡ string_bytes l.fn.out ++ numbered (element (λ row. number_text row.to)) 0 (map row_of l.rows)
