-- What the loop `text` of `copied` in src/programs.rt keeps.

use Rattle.std.proofs.Common.{◌≡◌, ◌++◌, drop, map, string_bytes}
use Rattle.ls_class_programs.proofs.programs.copied.Given as goal

abbrev pub invariant-loop-text : goal.invariant-loop-text
invariant-loop-text l =
    map string_bytes l.all.items ++ map string_bytes (drop l.text-index l.texts) ≡ map string_bytes l.texts
