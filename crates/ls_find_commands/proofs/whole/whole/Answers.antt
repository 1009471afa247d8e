-- Why `whole` in src/whole.rt keeps its contract.

use Rattle.std.proofs.Common.{◌∙◌, ap, map, subst}
use Rattle.std.specs.Prelude.{IfSome, option_map, string_bytes}
use Rattle.ls_any_size.specs.Alone.{RunsAlone}
use Rattle.ls_items.specs.Cutting.{plain_text}
use Rattle.ls_find_commands.proofs.Wholes.{whole_is}
use Rattle.ls_find_commands.proofs.whole.whole.Goals as goal

pub returns-in-Some : goal.returns-in-Some
returns-in-Some c =
    let making = c.making.result.now in
    let calls = map string_bytes c.as_slice.result.now in
    let are = ap (map string_bytes) c.as_slice.ensures.value ∙ c.in_ok-calls.ensures in
    whole_is c.args.choosing c.smallest.result c.args.sought c.args.texts.classes.now
    (option_map plain_text c.args.texts.menu) _ c.programs-programs.result making calls (string_bytes c.in-Some.said)
    c.as_str.result.now (string_bytes c.in_ok-print_whole-in-Some.field-0) c.smallest.ensures c.in-Ok.ensures.programs
    c.programs-programs.ensures c.making.ensures are
    (subst (λ o. IfSome o (λ text. RunsAlone c.args.sought c.args.texts.classes.now making calls (string_bytes text)))
    c.in-Some.is c.in_ok-said.ensures) c.as_str.ensures.value c.in_ok-print_whole-in-Some.ensures
