-- What the loop `text` of `push_texts` in src/programs.rt keeps.

use Rattle.std.proofs.Common.{◌≡◌, ◌++◌, drop, map, string_bytes}
use Rattle.ls_family_search.proofs.programs.push_texts.Given as goal

abbrev pub invariant-loop-text : goal.invariant-loop-text
invariant-loop-text l =
    map string_bytes l.all.items ++ map string_bytes (drop l.text-index l.texts) ≡
    map string_bytes l.fn.all.items ++ map string_bytes l.texts
