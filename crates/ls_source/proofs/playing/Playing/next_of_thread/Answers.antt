-- Why `Playing::next_of_thread` in src/playing.rt keeps its clause `next`.

use Rattle.std.proofs.Common.{◌≡◌, ◌<◌, length, get_or, Some, sym, ap, subst, ◌∙◌}
use Rattle.std.proofs.lemmas.Bool.{ltb-true}
use Rattle.std.specs.Prelude.{is_some, slice_get, map, option_map}
use Rattle.ls_checked.specs.Plain.{plain_file}
use Rattle.ls_checked.specs.PlainProgram.{plain_program}
use Rattle.ls_source.specs.Kept.{asked_at}
use Rattle.ls_source.specs.SeenThread.{thread_of, plain_next}
use Rattle.ls_source.proofs.Kept.{thread_at}
use Rattle.ls_source.proofs.Standing.{next_is}
use Rattle.ls_source.proofs.playing.Playing.next_of_thread.Goals as goal

pub returns-in-Some-asked-clause-next : goal.returns-in-Some-asked-clause-next
returns-in-Some-asked-clause-next c =
    let r = c.args.self.now in
    let i = c.args.thread in
    let v = c.in-Some.t.now in
    let file = plain_file r.file.now in
    let program = plain_program r.program.now in
    let ts = r.threads.items in
    let within : i < length ts = subst (λ l. i < length l) c.deref.ensures.value
    (ltb-true i (length c.deref.result.now) (sym c.get.ensures.lookup.0 ∙ ap is_some c.in-Some.is)) in
    let is : v ≡ get_or ts i v = c.in-Some.ensures.lookup.1 ∙ ap (λ l. get_or l i v) c.deref.ensures.value in
    let asks : asked_at program (slice_get (map thread_of ts) i) ≡ Some (plain_next c.in-Some-asked.next) =
    ap (asked_at program) (thread_at file program ts i v within is) ∙ sym c.asked.ensures ∙
    ap (option_map plain_next) c.in-Some-asked.is in
    next_is r i (plain_next c.in-Some-asked.next) asks
