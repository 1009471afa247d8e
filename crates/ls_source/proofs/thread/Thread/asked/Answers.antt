-- Why `Thread::asked` in src/thread.rt keeps its contract.

use Rattle.std.proofs.Common.{◌<◌, drop, map, length, rules, sym, ap, ◌∙◌}
use Rattle.ls_checked.specs.PlainProgram.{plain_program, plain_call}
use Rattle.ls_source_pending.specs.SeenPending.{state_of}
use Rattle.ls_source.specs.Calls.{asked_in}
use Rattle.ls_source.specs.SeenThread.{phase_of}
use Rattle.ls_source.proofs.Lefts.{some_left}
use Rattle.ls_source.proofs.thread.Thread.asked.Goals as goal

pub returns-then-n-self : goal.returns-then-n-self
returns-then-n-self c =
    let t = c.args.self.now in
    let within : t.begun < length t.calls.now = search rules in
    sym (ap (λ p. asked_in (plain_program c.args.program.now) t.begun (drop t.begun (map plain_call t.calls.now))
    (phase_of p (state_of t.work))) c.in-Starts.is ∙ some_left t.calls.now t.begun within)
