-- Why `Playing::step` in src/playing.rt keeps its clause `run` and what `act` requires.

use Rattle.std.proofs.Common.{arith, rules, ◌≡◌, ◌≤◌, true, length, ap, subst}
use Rattle.std.proofs.lemmas.List.{length-map}
use Rattle.ls_checked.specs.PlainProgram.{plain_program, plain_thread}
use Rattle.ls_source.specs.Progress.{gone_on}
use Rattle.ls_source.specs.SeenThread.{plain_next}
use Rattle.ls_source.proofs.Histories.{none_is_idle}
use Rattle.ls_source.proofs.Standing.{step_goes, stays_there, goes_there}
use Rattle.ls_source.proofs.playing.Playing.step.Goals as goal

pub returns-then-thread-len-clause-run : goal.returns-then-thread-len-clause-run
returns-then-thread-len-clause-run c p s =
    let past : length (plain_program c.args.self.now.program.now).threads ≤ c.args.thread = rw
    (length-map c.args.self.now.program.now.threads.items plain_thread)
    (omega (arith, c.args.self.now.program.now.threads.ok.0)) in
    stays_there c.args.self.now c.args.thread p
    (none_is_idle p.file p.program p.state c.args.thread
    (subst (λ q. length q.program.threads ≤ c.args.thread) s.shows past)) s

pub act-requires-clause-within : goal.act-requires-clause-within
act-requires-clause-within c = omega (
  arith,
  c.settle.ensures.threads,
  c.settle-2.ensures.threads,
  c.args.self.now.works,
  c.args.self.now.program.now.threads.ok.0,
)

pub returns-in_ok-act-in-Goes-clause-run : goal.returns-in_ok-act-in-Goes-clause-run
returns-in_ok-act-in-Goes-clause-run c p s =
    let settled = c.settle-2.ensures.stands p (c.settle.ensures.stands p s) in
    let starts : c.in_ok-has_started.field-0 ≡ true = search rules in
    c.settle-settled.ensures.stands (gone_on p c.args.thread)
    (goes_there c.act.new.self c.args.thread c.in-Goes.action p
    (step_goes p.file p.program p.state c.args.thread c.in_ok-has_started.field-0 (plain_next c.in_ok-action.field-0)
    c.in-Goes.action c.in-Goes.field-1 (c.in_ok-has_started.ensures p settled) starts
    (c.in_ok-action.ensures.next p settled) (ap plain_next c.in-Goes.is))
    (c.in_ok-act-in-Goes.ensures.run p settled))
