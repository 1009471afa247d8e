-- Why `by_name` in src/methods.rt keeps its contract and its loop `m`.

use Rattle.std.proofs.Common.{rules, ◌≡◌, ◌∙◌, refl, ap, sym, map, []}
use Rattle.std.proofs.lemmas.List.{drop_all}
use Rattle.ls_types_elaboration.specs.Known.{method_named}
use Rattle.ls_types_elaboration.specs.Tables.{method_sign_of}
use Rattle.ls_types_reading.specs.MethodsByName.{finds}
use Rattle.ls_types_reading.proofs.ByName.{all_given, first_of, one_given}
use Rattle.ls_types_reading.proofs.methods.by_name.Goals as goal

pub loop-m-init : goal.loop-m-init
loop-m-init c = λ name. (let e : c.new-all.result.entries ≡ [] = c.new-all.ensures.empty in rw e refl)

pub loop-m-preserved : goal.loop-m-preserved
loop-m-preserved c = λ name.
    one_given _ _ _ _ c.args.methods.now c.loop-m.m-index (search rules) c.m-item.is (search rules)
    c.in_ok-give.ensures.given name
    (method_named (map method_sign_of c.args.methods.now) name) (c.loop-m.invariant name)

pub returns : goal.returns
returns c = λ name.
    sym (all_given (finds c.loop-m.all name) name)
    ∙ ap (λ ms. first_of (finds c.loop-m.all name) (method_named (map method_sign_of ms) name))
    (sym (drop_all c.loop-m.m-index c.args.methods.now c.loop-m-test.false))
    ∙ c.loop-m.invariant name
