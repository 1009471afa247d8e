-- Why `asked_by` in src/turns.rt keeps its contract.

use Rattle.std.proofs.Common.{◌≡◌, ◌∙◌, ap, subst, sym}
use Rattle.ls_checked.specs.CheckedTree.{File}
use Rattle.ls_checked.specs.Plain.{plain_file}
use Rattle.ls_meaning.specs.Threads.{Goes}
use Rattle.ls_source.specs.Calls.{Thread, asked_by, thread_meaning}
use Rattle.ls_source.specs.SeenThread.{thread_of}
use Rattle.ls_source_pending.specs.Seen.{control_of}
use Rattle.ls_source_pending.specs.declared.work.Control.{Control}
use Rattle.ls_transitions.proofs.Acting.{asked_there}
use Rattle.ls_transitions.specs.Seen.{table_of}
use Rattle.ls_choices.proofs.turns.asked_by.Goals as goal

pub returns-in-Some-Asks : goal.returns-in-Some-Asks
returns-in-Some-Asks c =
    let t = table_of c.args.transitions.now in
    let w = thread_of c.work_at.result.now in
    let x = thread_of c.settle.new.self in (
      _,
      asked_there t c.args.work w x (Goes c.in-Some-Asks.action _) c.work_at.ensures
          (λ program q.
          subst (λ (f : File). thread_meaning f program x q ≡ thread_meaning f program w q) (sym c.requires.file)
          (c.settle.ensures program q
          ∙ ap (λ (k : Thread). thread_meaning (plain_file c.args.file.now) program k q) c.in_ok-rest.ensures))
          (c.in-Some-Asks.ensures t.program
          ∙ ap (λ (k : Control). asked_by (control_of k)) c.in-Some-Asks.field-0-is),
    )
