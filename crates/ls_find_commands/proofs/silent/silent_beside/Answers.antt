-- Why `silent_beside` in src/silent.rt keeps its contract.

use Rattle.std.proofs.Common.{subst, sym}
use Rattle.std.specs.Prelude.{string_bytes}
use Rattle.std.proofs.lemmas.Result.{IfOk-weaker}
use Rattle.ls_find_commands.specs.Silent.{Answers, IsSilentBeside, NoneAnswers, Unasked}
use Rattle.ls_find_commands.proofs.silent.silent_beside.Goals as goal

pub returns-then-not-asked : goal.returns-then-not-asked
returns-then-not-asked c =
    subst (IsSilentBeside c.args.asked c.args.classes.now c.args.programs.now) (sym c.new.ensures.bytes)
    (Unasked c.if-not-asked.true)

pub returns-then-not-silent : goal.returns-then-not-silent
returns-then-not-silent c =
    subst (IsSilentBeside c.args.asked c.args.classes.now c.args.programs.now) (sym c.new-then-not-silent.ensures.bytes)
    (Answers c.if-not-asked.false (c.in_ok-silent.ensures.one c.if-not-silent.true))

pub returns : goal.returns
returns c =
    IfOk-weaker c.from_str.result _
    (λ text. IsSilentBeside c.args.asked c.args.classes.now c.args.programs.now (string_bytes text))
    (λ text is. subst (IsSilentBeside c.args.asked c.args.classes.now c.args.programs.now) (sym is)
    (NoneAnswers c.if-not-asked.false (c.in_ok-silent.ensures.silent c.if-not-silent.false)))
    c.from_str.ensures.ok
