-- Why `Thread::go_on` in src/thread.rt keeps its contract.

use Rattle.std.proofs.Common.{ap, ◌∙◌}
use Rattle.ls_checked.specs.Plain.{plain_file}
use Rattle.ls_source.specs.Calls.{thread_meaning}
use Rattle.ls_source.specs.SeenThread.{thread_of}
use Rattle.ls_source.proofs.Calls.{begun_keeps, finished_keeps}
use Rattle.ls_source.proofs.thread.Thread.go_on.Goals as goal

pub returns : goal.returns
returns c = λ program q.
    let file = plain_file c.args.file.now in
    let worked = thread_of c.work_on.new.self in
    ap (λ t. thread_meaning file program t q) c.finish.ensures
    ∙ finished_keeps file program worked.number worked.left worked.phase q
    ∙ c.work_on.ensures program q
    ∙ ap (λ t. thread_meaning file program t q) c.begin_body.ensures
    ∙ ap (λ t. thread_meaning file program t q) c.begin_call.ensures
    ∙ begun_keeps file program (thread_of c.args.self.now) q
