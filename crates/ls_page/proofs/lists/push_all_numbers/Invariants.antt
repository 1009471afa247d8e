-- What the loop `place` of `push_all_numbers` in src/lists.rt keeps.

use Rattle.std.proofs.Common.{◌≡◌, ◌++◌, drop, string_bytes}
use Rattle.std.specs.Fmt.{decimal}
use Rattle.ls_state.specs.Parts.{numbered}
use Rattle.ls_page.specs.Lists.{element, listed}
use Rattle.ls_page.specs.Numbers.{numbers_in}
use Rattle.ls_page.proofs.lists.push_all_numbers.Given as goal

abbrev pub invariant-loop-place : goal.invariant-loop-place
invariant-loop-place l =
    string_bytes l.out ++ numbered (element (listed decimal)) l.place (numbers_in (drop l.place l.all))
    ≡ string_bytes l.fn.out ++ numbered (element (listed decimal)) 0 (numbers_in l.all)
