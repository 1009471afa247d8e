-- Why `try_thread` in src/walking.rt keeps its clauses `machine` and `did` and its loop `preserved`.

use Rattle.std.proofs.Common.{◌+◌, ◌-◌, ◌∙◌, sym, ap, arith}
use Rattle.ls_explore.specs.Walks.{Tried, tried}
use Rattle.ls_explore.proofs.Walks.{tried_ends, tried_goes_on, tried_over}
use Rattle.ls_explore.proofs.walking.try_thread.Goals as goal

pub loop-preserved : goal.loop-preserved
loop-preserved c =
    tried_goes_on (c.args.most - c.loop.counter) (c.args.most - (c.loop.counter + 1)) c.loop.machine c.step-did.new.self
    c.args.thread c.step-did.result (tried c.args.most c.args.machine.now c.args.thread) (omega arith)
    c.step-did.ensures.machine c.step-did.ensures.did (sym c.is_silent.ensures ∙ c.if-not-is_silent.false)
    c.loop.invariant

pub returns-then-not-is_silent-clause-machine : goal.returns-then-not-is_silent-clause-machine
returns-then-not-is_silent-clause-machine c =
    ap (λ (r : Tried). r.machine) (tried_ends (c.args.most - c.loop.counter) (c.args.most - (c.loop.counter + 1))
    c.loop.machine c.step-did.new.self c.args.thread c.step-did.result
    (tried c.args.most c.args.machine.now c.args.thread) (omega arith) c.step-did.ensures.machine
    c.step-did.ensures.did (sym c.is_silent.ensures ∙ c.if-not-is_silent.true) c.loop.invariant)

pub returns-then-not-is_silent-clause-did : goal.returns-then-not-is_silent-clause-did
returns-then-not-is_silent-clause-did c =
    ap (λ (r : Tried). r.did) (tried_ends (c.args.most - c.loop.counter) (c.args.most - (c.loop.counter + 1))
    c.loop.machine c.step-did.new.self c.args.thread c.step-did.result
    (tried c.args.most c.args.machine.now c.args.thread) (omega arith) c.step-did.ensures.machine
    c.step-did.ensures.did (sym c.is_silent.ensures ∙ c.if-not-is_silent.true) c.loop.invariant)

pub returns-clause-machine : goal.returns-clause-machine
returns-clause-machine c = sym (ap (λ (r : Tried). r.machine)
    (tried_over (c.args.most - c.loop.counter) c.loop.machine c.args.thread
    (tried c.args.most c.args.machine.now c.args.thread) (omega arith) c.loop.invariant))

pub returns-clause-did : goal.returns-clause-did
returns-clause-did c = sym
    (ap (λ (r : Tried). r.did) (tried_over (c.args.most - c.loop.counter) c.loop.machine c.args.thread
    (tried c.args.most c.args.machine.now c.args.thread) (omega arith) c.loop.invariant))
