-- What the loop `piece` of `with_calls` in src/written.rt keeps.

use Rattle.std.proofs.Common.{◌≡◌, [], drop, map, string_bytes}
use Rattle.ls_items.specs.Cutting.{plain_text}
use Rattle.ls_class_programs.specs.Written.{with_calls}
use Rattle.ls_class_programs.proofs.written.with_calls.Given as goal

abbrev pub invariant-loop-piece : goal.invariant-loop-piece
invariant-loop-piece l =
    with_calls (string_bytes l.out) (map plain_text (drop l.piece-index l.pieces)) ≡
    with_calls [] (map plain_text l.pieces)
