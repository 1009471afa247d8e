-- Why `Playing::control_at` in src/playing.rt keeps its contract.

use Rattle.std.proofs.Common.{◌≡◌, ◌<◌, length, get_or, sym, ap, subst, ◌∙◌}
use Rattle.std.proofs.lemmas.Bool.{ltb-true}
use Rattle.std.specs.Prelude.{is_some}
use Rattle.ls_checked.specs.Plain.{plain_file}
use Rattle.ls_checked.specs.PlainProgram.{plain_program}
use Rattle.ls_source.specs.Kept.{asked_at}
use Rattle.ls_source.proofs.Kept.{thread_at}
use Rattle.ls_source.proofs.playing.Playing.control_at.Goals as goal

pub returns-in-Some-control : goal.returns-in-Some-control
returns-in-Some-control c =
    let r = c.args.self.now in
    let i = c.args.thread in
    let v = c.in-Some.t.now in
    let file = plain_file r.file.now in
    let program = plain_program r.program.now in
    let ts = r.threads.items in
    let within : i < length ts = subst (λ l. i < length l) c.deref.ensures.value
    (ltb-true i (length c.deref.result.now) (sym c.get.ensures.lookup.0 ∙ ap is_some c.in-Some.is)) in
    let is : v ≡ get_or ts i v = c.in-Some.ensures.lookup.1 ∙ ap (λ l. get_or l i v) c.deref.ensures.value in
    ap (asked_at program) (thread_at file program ts i v within is) ∙ c.in-Some-control.ensures program
