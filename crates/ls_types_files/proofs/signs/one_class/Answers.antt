-- Why `one_class` in src/signs.rt keeps its contract.

use Rattle.std.proofs.Common.{rules, map}
use Rattle.std.proofs.lemmas.Result.{err_from_is_err_and}
use Rattle.std.specs.Prelude.{string_bytes}
use Rattle.ls_types_elaboration.specs.Elaborated.{each}
use Rattle.ls_types_elaboration.specs.Signs.{member_met, class_met, nothing_met}
use Rattle.ls_types_tables.specs.ByName.{keys_of}
use Rattle.ls_types_elaboration.specs.Placed.{placed_name}
use Rattle.ls_types_elaboration.specs.PlacedStatements.{placed_member}
use Rattle.ls_types_files.specs.SignViews.{met_of, classes_of}
use Rattle.ls_types_files.proofs.Refusals.{fails_on, fails_within}
use Rattle.ls_types_files.proofs.signs.one_class.Goals as goal

pub returns-in_err-member_met : goal.returns-in_err-member_met
returns-in_err-member_met c =
    let p = err_from_is_err_and c.from_residual.result c.from_residual.ensures.1 in
    let step = member_met (keys_of c.args.names.now) (string_bytes c.args.c.now.name.text) in
    let items = c.args.c.now.members.items in
    let all = each step (nothing_met c.args.classes.now.next) (map placed_member items) in
    rw (p.1, p.2)
    (fails_on c.in_err-member_met.field-0.0 all (λ met. class_met (classes_of c.args.classes.now)
    (placed_name c.args.c.now.name) met met.constructor)
    (fails_within step placed_member items c.loop-m.m-index c.m-item.result (met_of c.loop-m.met) all
    c.in_err-member_met.field-0.0
    (search rules) (search rules) (search rules) (search rules)))
