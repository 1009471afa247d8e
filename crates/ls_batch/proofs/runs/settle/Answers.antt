-- Why `settle` in src/runs.rt keeps its clauses `steps` and `machine` and its loop `taken`.

use Rattle.std.proofs.Common.{◌≡◌, ◌+◌, ◌-◌, ◌∙◌, ℕ, ap, arith, sym, true, false}
use Rattle.ls_code.specs.Machine.{machine_state}
use Rattle.ls_batch.specs.Samples.{goes_on, settled, settling}
use Rattle.ls_batch.proofs.Settled.{settled_more, settled_none, settling_more, settling_none, settling_stop}
use Rattle.ls_batch.proofs.runs.settle.Goals as goal

pub returns-then-not-goes_on-clause-steps : goal.returns-then-not-goes_on-clause-steps
returns-then-not-goes_on-clause-steps c =
    let stop : goes_on (machine_state c.loop-taken.machine 0) ≡ false = sym c.goes_on.ensures ∙ c.if-not-goes_on.true in
    let none = settling_stop (c.args.most - c.loop-taken.taken) c.loop-taken.machine stop in
    let kept = c.loop-taken.invariant.steps in
    omega (arith, none, kept)

pub loop-taken-preserved : goal.loop-taken-preserved
loop-taken-preserved c =
    let on : goes_on (machine_state c.loop-taken.machine 0) ≡ true = sym c.goes_on.ensures ∙ c.if-not-goes_on.false in
    let n = c.args.most - c.loop-taken.taken in
    let k = c.args.most - (c.loop-taken.taken + 1) in
    let one : n ≡ k + 1 = omega (arith, c.loop-taken-test.true) in
    let more = settling_more n k c.loop-taken.machine c.step.new.self one on c.step.ensures.machine in
    let kept = c.loop-taken.invariant.steps in
    record {
      machine = sym (settled_more n k c.loop-taken.machine c.step.new.self one on c.step.ensures.machine) ∙
          c.loop-taken.invariant.machine;
      steps = omega (arith, more, kept);
    }

pub returns-clause-machine : goal.returns-clause-machine
returns-clause-machine c =
    let none : 0 ≡ c.args.most - c.loop-taken.taken = omega (arith, c.loop-taken-test.false) in
    sym (settled_none c.loop-taken.machine) ∙ (ap (λ (k : ℕ). settled k c.loop-taken.machine) none ∙
    c.loop-taken.invariant.machine)

pub returns-clause-steps : goal.returns-clause-steps
returns-clause-steps c =
    let none : c.args.most - c.loop-taken.taken ≡ 0 = omega (arith, c.loop-taken-test.false) in
    let at_end : settling (c.args.most - c.loop-taken.taken) c.loop-taken.machine ≡ 0 =
    ap (λ (k : ℕ). settling k c.loop-taken.machine) none ∙ settling_none c.loop-taken.machine in
    let kept = c.loop-taken.invariant.steps in
    omega (arith, at_end, kept, c.loop-taken-test.false, c.loop-taken.auto.taken-end)
