-- Why `start_of` in src/texts.rt keeps its clause `items`.

use Rattle.std.proofs.Common.{◌∙◌, sym}
use Rattle.ls_aim.proofs.Dividing.{after_version, no_version}
use Rattle.ls_aim.proofs.texts.start_of.Goals as goal

pub returns-then-is_version-clause-items : goal.returns-then-is_version-clause-items
returns-then-is_version-clause-items c =
    after_version c.args.text.now c.split_at.result.1.now c.split_at-2.result.0.now _ _ c.gap_len-gaps.ensures.len
    c.split_at.ensures.back
    c.item_len-len.ensures.len c.split_at-2.ensures.front (sym c.is_version.ensures ∙ c.if-is_version.true)

pub returns-else-is_version-clause-items : goal.returns-else-is_version-clause-items
returns-else-is_version-clause-items c =
    no_version c.args.text.now c.split_at.result.1.now c.split_at-2.result.0.now _ c.item_len-len.result
    c.gap_len-gaps.ensures.len c.split_at.ensures.back
    c.item_len-len.ensures.len c.split_at-2.ensures.front (sym c.is_version.ensures ∙ c.if-is_version.false)
