-- Why `enter` in src/steps.rt keeps its clause `came`.

use Rattle.ls_machine.proofs.Stepping.{call_next, call_stuck, call_throws, enter_found}
use Rattle.ls_machine.proofs.steps.enter.Goals as goal

pub returns-in-Entered-clause-came : goal.returns-in-Entered-clause-came
returns-in-Entered-clause-came c = enter_found c.args.code.now c.args.cells.now c.args.number c.args.thread.now
    c.in-Some.called c.args.method _ _ _ c.in-Some.ensures (call_next c.args.code.now c.args.cells.now c.args.number
    c.args.thread.now _ c.args.method _ c.in-Entered.ensures.flow c.enter.ensures.after)

pub returns-in-Throws-clause-came : goal.returns-in-Throws-clause-came
returns-in-Throws-clause-came c = enter_found c.args.code.now c.args.cells.now c.args.number c.args.thread.now
    c.in-Some.called c.args.method _ _ _ c.in-Some.ensures (call_throws c.args.code.now c.args.cells.now c.args.number
    c.args.thread.now _ c.args.method c.enter.new.self _ _ _ c.in-Throws.kind c.in-Throws.ensures.flow
    c.enter.ensures.after c.throw.ensures.came)

pub returns-in-Stuck-clause-came : goal.returns-in-Stuck-clause-came
returns-in-Stuck-clause-came c = enter_found c.args.code.now c.args.cells.now c.args.number c.args.thread.now
    c.in-Some.called c.args.method _ _ _ c.in-Some.ensures (call_stuck c.args.code.now c.args.cells.now c.args.number
    c.args.thread.now _ c.args.method _ c.in-Stuck.ensures.flow c.enter.ensures.after)
