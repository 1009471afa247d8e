-- What the loop `text` of `have_returns` in src/explaining.rt keeps.

use Rattle.std.proofs.Common.{◌≡◌, false, map, take}
use Rattle.std.specs.Prelude.{string_bytes}
use Rattle.std.specs.List.{list_any}
use Rattle.ls_explanations.specs.Explanations.{has_return}
use Rattle.ls_explanations.proofs.explaining.have_returns.Given as goal

abbrev pub invariant-loop-text : goal.invariant-loop-text
invariant-loop-text l = list_any has_return (map string_bytes (take l.text-index l.texts)) ≡ false
