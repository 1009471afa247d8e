-- Why `aim` in src/aiming.rt keeps its contract.

use Rattle.std.proofs.Common.{◌∙◌, ◌+◌, ap, sym, arith}
use Rattle.ls_items.specs.Items.{Item}
use Rattle.ls_labels.specs.Names.{names_of}
use Rattle.ls_aim.specs.Aims.{aimed, all_taken}
use Rattle.ls_aim.specs.Texts.{items}
use Rattle.ls_aim.proofs.Dividing.{items_split}
use Rattle.ls_aim.proofs.Taking.{one_more}
use Rattle.ls_aim.proofs.aiming.aim.Goals as goal

pub items-preserved : goal.items-preserved
items-preserved c =
    let names = names_of c.args.names in
    let split = items_split c.items.at c.item_len-len.result c.items.rest.now c.split_at-else-len-eq0.result.0.now
    c.split_at-else-len-eq0.result.1.now c.item_len-len.ensures.len c.if-len-eq0.false
    c.split_at-else-len-eq0.ensures.front c.split_at-else-len-eq0.ensures.back in
    let item : Item = (c.items.at, c.split_at-else-len-eq0.result.0.now) in
    let more = items (c.items.at + c.item_len-len.result) 0 c.split_at-else-len-eq0.result.1.now in
    record {
      place = omega (arith, c.split_at-else-len-eq0.ensures.back_len, c.items.invariant.place);
      read = one_more names c.items.steps c.take.new.steps item more (aimed names c.args.targets.now)
          c.in_ok-take.ensures
          (ap (all_taken names c.items.steps) (sym split) ∙ c.items.invariant.read);
    }
