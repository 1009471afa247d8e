-- Why `all_arguments` in src/arguments.rt keeps its clause `many`.

use Rattle.std.proofs.Common.{◌∙◌, [], ◌∷◌, ap, map, string_bytes}
use Rattle.ls_items.specs.Cutting.{plain_text}
use Rattle.ls_class_programs.specs.Menus.{with_argument}
use Rattle.ls_class_programs.proofs.Counted.{many_in_all}
use Rattle.ls_class_programs.proofs.arguments.all_arguments.Goals as goal

pub returns-in_ok-begun-in-len1-up-clause-many : goal.returns-in_ok-begun-in-len1-up-clause-many
returns-in_ok-begun-in-len1-up-clause-many c =
    let begun = c.in_ok-begun-in-len1-up.ensures
    ∙ ap (λ l. with_argument (map string_bytes l) (map plain_text c.arguments_of.result.now)) c.as_slice.ensures.value
    ∙ ap (λ l. with_argument l (map plain_text c.arguments_of.result.now)) c.in_ok-none.ensures
    ∙ ap (with_argument ([] ∷ [])) c.arguments_of.ensures.is in
    λ failed. many_in_all (map plain_text c.args.firsts.now) (map plain_text c.args.integers.now)
    (map string_bytes c.in_ok-begun-in-len1-up.begun.items) c.args.parameters.now c.first-item.result
    c.in-len1-up.len_at_least c.first-item.is begun (c.with_arguments.ensures.many failed)
