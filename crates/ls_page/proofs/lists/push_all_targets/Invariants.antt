-- What the loop `place` of `push_all_targets` in src/lists.rt keeps.

use Rattle.std.proofs.Common.{◌≡◌, ◌++◌, drop, map, string_bytes}
use Rattle.ls_state.specs.Parts.{numbered}
use Rattle.ls_choices.specs.Seen.{row_of}
use Rattle.ls_page.specs.Lists.{element, listed, number_text}
use Rattle.ls_page.proofs.lists.push_all_targets.Given as goal

abbrev pub invariant-loop-place : goal.invariant-loop-place
invariant-loop-place l =
    string_bytes l.out ++ numbered (element (listed (λ row. number_text row.to))) l.place
    (map (λ v. map row_of v.items) (drop l.place l.all))
    ≡ string_bytes l.fn.out ++ numbered (element (listed (λ row. number_text row.to))) 0
    (map (λ v. map row_of v.items) l.all)
