-- What the loop `item` of `push_more` in src/noting.rt keeps.

use Rattle.std.proofs.Common.{◌≡◌, ◌++◌, take}
use Rattle.std.specs.Prelude.{string_bytes}
use Rattle.std.specs.List.{flat_map}
use Rattle.ls_explanations.specs.OrderNotes.{more_item}
use Rattle.ls_explanations.proofs.noting.push_more.Given as goal

abbrev pub invariant-loop-item : goal.invariant-loop-item
invariant-loop-item l = string_bytes l.text ≡ string_bytes l.fn.text ++ flat_map more_item (take l.item-index l.items)
