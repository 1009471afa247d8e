-- What the loop `number` of `push_each` in src/java.rt keeps.

use Rattle.std.proofs.Common.{◌≡◌, ◌++◌, drop, string_bytes}
use Rattle.ls_state.specs.Parts.{numbered}
use Rattle.ls_page.specs.Java.{place_text}
use Rattle.ls_page.specs.Lists.{element}
use Rattle.ls_page.proofs.java.push_each.Given as goal

abbrev pub invariant-loop-number : goal.invariant-loop-number
invariant-loop-number l =
    string_bytes l.out ++ numbered (element place_text) l.number (drop l.number l.places)
    ≡ string_bytes l.fn.out ++ numbered (element place_text) 0 l.places
