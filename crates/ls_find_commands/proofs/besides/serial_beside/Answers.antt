-- Why `serial_beside` in src/besides.rt keeps its contract.

use Rattle.std.proofs.Common.{◌≡◌, ◌∙◌, ◌+◌, ap, arith, length, subst, sym}
use Rattle.std.specs.Prelude.{string_bytes}
use Rattle.std.proofs.lemmas.Result.{IfOk-weaker}
use Rattle.ls_families.specs.Families.{Family, plans}
use Rattle.ls_find_serial.specs.Lines.{serial_text}
use Rattle.ls_find_serial.specs.Told.{AreToldOf}
use Rattle.ls_find_commands.specs.Besides.{IsSerialBeside, Says, Silent}
use Rattle.ls_find_commands.proofs.besides.serial_beside.Goals as goal

pub returns-then-not-beside : goal.returns-then-not-beside
returns-then-not-beside g c =
    subst (IsSerialBeside c.args.beside.now.asked c.args.beside.now.races.now.classes.now c.args.programs.now)
    (sym c.new.ensures.bytes)
    (Silent c.if-not-beside.true)

pub returns-then-beside-count : goal.returns-then-beside-count
returns-then-beside-count g c =
    let classes = c.args.beside.now.races.now.classes.now in
    let p = c.args.programs.now in
    let ts = c.args.beside.now.told.now in
    let from = c.args.beside.now.from in
    let many = c.count-count.ensures ∙ ap (λ (f : Family). length (plans f)) c.family.ensures in
    let last : from + length ts ≡ length (plans p.family) =
    omega (arith, many, c.if-beside-eq0.true, c.if-beside-count.true) in
    let told = subst (λ n. AreToldOf classes p n (length (plans p.family)) ts) c.if-beside-eq0.true
    (subst (λ n. AreToldOf classes p from n ts) last c.requires) in
    IfOk-weaker c.serial_lines.result _ (λ text. IsSerialBeside c.args.beside.now.asked classes p (string_bytes text))
    (λ text is. subst (IsSerialBeside c.args.beside.now.asked classes p) (sym is) (Says ts c.if-not-beside.false told))
    c.serial_lines.ensures

pub returns : goal.returns
returns g c =
    let classes = c.args.beside.now.races.now.classes.now in
    let p = c.args.programs.now in
    let ts = c.in_ok-told.told.items in
    let many = c.count-count.ensures ∙ ap (λ (f : Family). length (plans f)) c.family.ensures in
    let told = subst (λ n. AreToldOf classes p 0 n ts) many c.in_ok-told.ensures in
    IfOk-weaker c.serial_lines-2.result _ (λ text. IsSerialBeside c.args.beside.now.asked classes p (string_bytes text))
    (λ text is. subst (IsSerialBeside c.args.beside.now.asked classes p)
    (sym (is ∙ ap serial_text c.as_slice.ensures.value)) (Says ts c.if-not-beside.false told))
    c.serial_lines-2.ensures
