-- Why `acts` in src/staying.rt keeps its clause `acted`.

use Rattle.ls_machine_threads.specs.Threads.{instruction_of}
use Rattle.ls_machine.proofs.Stays.{unseen_here}
use Rattle.ls_machine.proofs.staying.acts.Goals as goal

pub returns-in-Some-clause-acted : goal.returns-in-Some-clause-acted
returns-in-Some-clause-acted c = λ _. unseen_here c.args.code.now c.args.number c.args.thread.now c.act.new.thread
    c.args.cells.now c.act.new.cells c.act.result (instruction_of c.in-Some.acting) c.in-Some.ensures.here
    c.act.ensures.came c.act.ensures.events c.act.ensures.unseen
