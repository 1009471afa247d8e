-- What the loop `call` of `are_made_of` in src/menu.rt keeps.

use Rattle.std.proofs.Common.{drop, map}
use Rattle.std.specs.Prelude.{string_bytes}
use Rattle.ls_any_size.specs.Alone.{AreMadeOf}
use Rattle.ls_any_size.proofs.menu.are_made_of.Given as goal

abbrev pub invariant-loop-call : goal.invariant-loop-call
invariant-loop-call l =
    AreMadeOf l.classes l.making l.menu.class l.menu.methods.items (map string_bytes (drop l.call-index l.calls)) →
    AreMadeOf l.classes l.making l.menu.class l.menu.methods.items (map string_bytes l.calls)
