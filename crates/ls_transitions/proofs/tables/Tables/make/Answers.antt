-- Why `Tables::make` in src/tables.rt keeps its clause `made` and what `act` requires.

use Rattle.std.proofs.Common.{sym, ap, ◌∙◌}
use Rattle.std.proofs.lemmas.Result.{IfOk-weaker}
use Rattle.ls_checked.specs.Plain.{plain_file}
use Rattle.ls_meaning.specs.Threads.{Ended, Trapped}
use Rattle.ls_source.specs.Calls.{Thread, thread_meaning}
use Rattle.ls_source.specs.Kept.{action_in}
use Rattle.ls_source.specs.SeenThread.{thread_of}
use Rattle.ls_transitions.specs.Tables.{Table}
use Rattle.ls_transitions.specs.Moves.{IsMove}
use Rattle.ls_transitions.specs.Acting.{IsActed}
use Rattle.ls_transitions.specs.SeenTables.{tables_of}
use Rattle.ls_transitions.proofs.Keeping.{item_there}
use Rattle.ls_transitions.proofs.Acting.{asked_there, acted_there}
use Rattle.ls_transitions.proofs.tables.Tables.make.Goals as goal

pub returns-in-Some-Ended-clause-made : goal.returns-in-Some-Ended-clause-made
returns-in-Some-Ended-clause-made c =
    asked_there (tables_of c.args.self.now) c.args.work (thread_of c.index.result.now) (thread_of c.settle.new.self)
    Ended
    (item_there thread_of c.args.self.now.works.items c.args.work c.index.result.now c.requires.work c.index.ensures)
    (λ program q. c.settle.ensures program q
    ∙ ap (λ (x : Thread). thread_meaning (plain_file c.args.self.now.file.now) program x q) c.in_ok-rest.ensures)
    (sym (rw c.in-Some-Ended.field-0-is at c.in-Some-Ended.ensures))

pub returns-in-Some-Trapped-clause-made : goal.returns-in-Some-Trapped-clause-made
returns-in-Some-Trapped-clause-made c =
    asked_there (tables_of c.args.self.now) c.args.work (thread_of c.index.result.now) (thread_of c.settle.new.self)
    Trapped
    (item_there thread_of c.args.self.now.works.items c.args.work c.index.result.now c.requires.work c.index.ensures)
    (λ program q. c.settle.ensures program q
    ∙ ap (λ (x : Thread). thread_meaning (plain_file c.args.self.now.file.now) program x q) c.in_ok-rest.ensures)
    (sym (rw c.in-Some-Trapped.field-0-is at c.in-Some-Trapped.ensures))

pub act-requires-clause-asks : goal.act-requires-clause-asks
act-requires-clause-asks c =
    ap action_in (sym (rw c.in-Some-Goes.field-0-is at c.in-Some-Goes.ensures))

pub returns-in-Some-Goes-clause-made : goal.returns-in-Some-Goes-clause-made
returns-in-Some-Goes-clause-made c =
    let t : Table = tables_of c.args.self.now in
    let u : Table = tables_of c.act.new.self in
    IfOk-weaker c.act.result
    (λ m. IsActed u c.args.thread c.args.store (thread_of c.settle.new.self) c.in-Some-Goes.action m)
    (λ m. IsMove u c.args.thread c.args.store c.args.work m)
    (λ m. acted_there t u c.args.thread c.args.store c.args.work (thread_of c.index.result.now)
    (thread_of c.settle.new.self) c.in-Some-Goes.action c.in-Some-Goes.field-0-1 m c.requires.work
    (item_there thread_of c.args.self.now.works.items c.args.work c.index.result.now c.requires.work c.index.ensures)
    (λ program q. c.settle.ensures program q
    ∙ ap (λ (x : Thread). thread_meaning (plain_file c.args.self.now.file.now) program x q) c.in_ok-rest.ensures)
    (sym (rw c.in-Some-Goes.field-0-is at c.in-Some-Goes.ensures))
    c.act.ensures.grows)
    c.act.ensures.acted
