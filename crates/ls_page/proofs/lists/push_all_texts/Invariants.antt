-- What the loop `place` of `push_all_texts` in src/lists.rt keeps.

use Rattle.std.proofs.Common.{◌≡◌, ◌++◌, drop, map, string_bytes}
use Rattle.ls_page.specs.Quoted.{quoted}
use Rattle.ls_state.specs.Parts.{numbered}
use Rattle.ls_page.specs.Lists.{element}
use Rattle.ls_page.proofs.lists.push_all_texts.Given as goal

abbrev pub invariant-loop-place : goal.invariant-loop-place
invariant-loop-place l =
    string_bytes l.out ++ numbered (element quoted) l.place (map string_bytes (drop l.place l.texts))
    ≡ string_bytes l.fn.out ++ numbered (element quoted) 0 (map string_bytes l.texts)
