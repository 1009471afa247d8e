-- Why `whole_of` in src/alone.rt keeps its contract.

use Rattle.std.proofs.Common.{map, subst}
use Rattle.std.specs.Prelude.{IfSome, string_bytes}
use Rattle.ls_families.specs.Texts.{alone_text}
use Rattle.ls_image.specs.Images.{Compiles}
use Rattle.ls_any_size.proofs.Goodness.{if_alone}
use Rattle.ls_any_size.proofs.alone.whole_of.Goals as goal

pub returns : goal.returns
returns c = if_alone c.one_answer.ensures c.calm_is_good.ensures c.args.sought c.args.classes.now c.args.making.now
    (map string_bytes c.args.calls.now) (alone_text c.args.making.now 0 c.as_str.result.now) c.in-Some-2.image
    c.in_ok-menu.menu.class c.in_ok-menu.menu.methods.items c.told.result
    (subst (λ o. IfSome o (Compiles c.args.classes.now (alone_text c.args.making.now 0 c.as_str.result.now)))
    c.in-Some-2.is
    c.in_ok-image.ensures)
    (c.in_ok-are_made_of.ensures c.if-not-branch.false) c.told.ensures
