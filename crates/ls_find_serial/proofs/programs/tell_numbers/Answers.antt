-- Why `tell_numbers` in src/programs.rt keeps its contract.

use Rattle.std.proofs.Common.{◌-◌, subst}
use Rattle.std.proofs.lemmas.Result.{IfOk-weaker}
use Rattle.ls_find_serial.specs.Told.{AreToldOf}
use Rattle.ls_find_serial.proofs.EachTold.{AreEach, as_many, each_told}
use Rattle.ls_find_serial.proofs.programs.tell_numbers.Goals as goal

pub returns : goal.returns
returns g c =
    let classes = c.args.classes.now in
    let p = c.args.programs.now in
    let from = c.args.numbers.from in
    let to = c.args.numbers.to in
    IfOk-weaker c.joined.result _ (λ v. AreToldOf classes p from to v.items) (λ v is.
    let zip = subst (AreEach classes p from (to - from)) is c.in_ok-each.ensures in record {
      many = as_many classes p from (to - from) v.items zip;
      each = each_told classes p from (to - from) v.items zip;
    }) c.joined.ensures
