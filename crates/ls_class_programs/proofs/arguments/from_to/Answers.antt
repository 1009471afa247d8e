-- Why `from_to` in src/arguments.rt keeps its clause `is`.

use Rattle.std.proofs.Common.{◌∙◌, ◌-◌, ap, drop, map, sym}
use Rattle.std.proofs.lemmas.List.{drop-map}
use Rattle.ls_items.specs.Cutting.{plain_text}
use Rattle.ls_class_programs.proofs.arguments.from_to.Goals as goal

pub returns-clause-is : goal.returns-clause-is
returns-clause-is c =
    let before = c.args.integers.first - 1 in
    ap (map plain_text) c.split_at.ensures.back ∙ sym (drop-map plain_text before _) ∙
    ap (drop before) c.up_to-all.ensures.is
