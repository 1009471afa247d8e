-- Why `none` in src/numbering.rt keeps its contract.

use Rattle.std.proofs.Common.{rules, ◌≡◌, ◌∷◌, []}
use Rattle.ls_history_numbers.specs.declared.numbering.Known.{Known}
use Rattle.ls_history_numbers.proofs.Longer.{numbered_none}
use Rattle.ls_history_numbers.proofs.numbering.none.Goals as goal

pub returns : goal.returns
returns c =
    let k : Known = record { events = c.new.result; before = 0; longer = c.new-2.result } in
    let is : c.push.new.self.items ≡ k ∷ [] = search rules in
    numbered_none c.push.new.self.items k is c.new.ensures.items c.new-2.ensures.items
