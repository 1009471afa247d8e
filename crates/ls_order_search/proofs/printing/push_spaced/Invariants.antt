-- What the loop `call` of `push_spaced` in src/printing.rt keeps.

use Rattle.std.proofs.Common.{◌≡◌, ◌++◌, drop, map, string_bytes}
use Rattle.std.specs.List.{flat_map}
use Rattle.ls_order_search.specs.OrderLines.{spaced}
use Rattle.ls_order_search.proofs.printing.push_spaced.Given as goal

abbrev pub invariant-loop-call : goal.invariant-loop-call
invariant-loop-call l = string_bytes l.text ++ flat_map spaced (map string_bytes (drop l.call-index l.calls)) ≡
    string_bytes l.fn.text ++ flat_map spaced (map string_bytes l.calls)
