-- Why `of_each` in src/methods.rt keeps its loop `c`.

use Rattle.std.proofs.Common.{rules, ◌∙◌, ap, map}
use Rattle.ls_types_elaboration.specs.Known.{method_named}
use Rattle.ls_types_elaboration.specs.Tables.{method_sign_of}
use Rattle.ls_types_reading.proofs.ByName.{class_given}
use Rattle.ls_types_reading.proofs.methods.of_each.Goals as goal

pub loop-c-preserved : goal.loop-c-preserved
loop-c-preserved c =
    class_given c.loop-c.all.items c.push.new.self.items c.in_ok-by_name.field-0 c.args.classes.now c.loop-c.c-index
    c.c-item.result
    (search rules) c.c-item.is c.in_ok-push.ensures.items
    (λ name. c.in_ok-by_name.ensures name ∙ ap (λ ms. method_named (map method_sign_of ms) name) (search rules))
    c.loop-c.invariant
