-- Why `Machine::take_turn` in src/machine/running.rt keeps its contract and its loop `left`.

use Rattle.std.proofs.Common.{◌≡◌, ◌-◌, refl, sym, ◌∙◌, arith}
use Rattle.ls_machine.proofs.Stays.{turn_rest, turn_one}
use Rattle.ls_machine.proofs.machine.Machine.take_turn.Goals as goal

pub loop-left-init : goal.loop-left-init
loop-left-init c = λ rest. refl

pub loop-left-preserved : goal.loop-left-preserved
loop-left-preserved c = λ rest.
    let a = c.stay-left.result in
    let l = c.loop-left.left in
    let first = turn_rest c.loop-left.self c.stay-left.new.self c.args.number l a (l - a) rest
    (omega (arith, c.stay-left.ensures.few)) c.stay-left.ensures.same in
    let one = turn_one c.stay-left.new.self c.any_step.new.self c.args.number (l - a) (l - a - 1) rest
    (omega (arith, c.if-left-eq0.false)) c.any_step.ensures.machine in
    sym one ∙ (sym first ∙ c.loop-left.invariant rest)

pub returns-then-left-eq0 : goal.returns-then-left-eq0
returns-then-left-eq0 c = λ rest.
    let a = c.stay-left.result in
    let l = c.loop-left.left in
    sym (c.loop-left.invariant rest) ∙ turn_rest c.loop-left.self c.stay-left.new.self c.args.number l a 0 rest
    (omega (arith, c.stay-left.ensures.few, c.if-left-eq0.true)) c.stay-left.ensures.same

pub returns : goal.returns
returns c = λ rest.
    let none : c.loop-left.left ≡ 0 = omega (arith, c.loop-left-test.false) in
    sym (rw none at (c.loop-left.invariant rest))
