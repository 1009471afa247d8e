-- Why `line_on` in src/line.rt keeps its contract.

use Rattle.std.proofs.Common.{subst, sym}
use Rattle.std.proofs.lemmas.Result.{IfOk-weaker}
use Rattle.std.specs.Prelude.{string_bytes}
use Rattle.ls_checked.specs.PlainProgram.{plain_program}
use Rattle.ls_serial.proofs.Lists.{is_get}
use Rattle.ls_specification.specs.Specification.{spec_file, spec_program}
use Rattle.ls_hopeless.specs.Hopeless.{IsHopelessAt, IsHopelessLine, Untold}
use Rattle.ls_hopeless.proofs.Lines.{told_line}
use Rattle.ls_hopeless.proofs.line.line_on.Goals as goal

pub returns-in-Some : goal.returns-in-Some
returns-in-Some c =
    let sfile = spec_file c.args.specification in
    let sprogram = spec_program c.args.specification in
    let h = c.args.history.now in
    IfOk-weaker c.line_of.result _ _ (λ text said once bad.
    let is = subst (IsHopelessAt sfile sprogram h) c.in-Some.is (c.in_ok-at.ensures.first once bad) in
    told_line sfile sprogram (plain_program c.args.program.now) h c.in-Some.at _ (string_bytes text) once is
    (is_get h c.in-Some.at _ is.within) said) c.line_of.ensures

pub returns-in-None : goal.returns-in-None
returns-in-None c = λ once bad.
    let sfile = spec_file c.args.specification in
    let sprogram = spec_program c.args.specification in
    let h = c.args.history.now in
    subst (IsHopelessLine sfile sprogram (plain_program c.args.program.now) h) (sym c.new.ensures.bytes)
    (Untold (subst (IsHopelessAt sfile sprogram h) c.in-None.is (c.in_ok-at.ensures.first once bad)))
