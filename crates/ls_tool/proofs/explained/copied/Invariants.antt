-- What the loop `part` of `copied` in src/explained.rt keeps.

use Rattle.std.proofs.Common.{◌≡◌, map, take}
use Rattle.std.specs.Prelude.{string_bytes}
use Rattle.ls_items.specs.Cutting.{plain_text}
use Rattle.ls_tool.proofs.explained.copied.Given as goal

abbrev pub invariant-loop-part : goal.invariant-loop-part
invariant-loop-part l = map string_bytes l.texts.items ≡ map plain_text (take l.part-index l.parts)
