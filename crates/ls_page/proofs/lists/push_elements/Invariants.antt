-- What the loop `place` of `push_elements` in src/lists.rt keeps.

use Rattle.std.proofs.Common.{◌≡◌, ◌++◌, drop, string_bytes}
use Rattle.std.specs.Fmt.{decimal}
use Rattle.ls_state.specs.Parts.{numbered}
use Rattle.ls_page.specs.Lists.{element}
use Rattle.ls_page.proofs.lists.push_elements.Given as goal

abbrev pub invariant-loop-place : goal.invariant-loop-place
invariant-loop-place l =
    string_bytes l.out ++ numbered (element decimal) l.place (drop l.place l.numbers)
    ≡ string_bytes l.fn.out ++ numbered (element decimal) 0 l.numbers
