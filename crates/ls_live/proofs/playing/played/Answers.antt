-- Why `played` in src/playing.rt keeps its clauses `there`, `due` and `done` and what `run_live` requires.

use Rattle.std.proofs.Common.{◌≡◌, ◌<◌, ◌∙◌, ℕ, All, ap, length, subst}
use Rattle.std.proofs.lemmas.List.{length-map}
use Rattle.ls_code.specs.Machine.{Machine}
use Rattle.ls_image.specs.Images.{code_of_image}
use Rattle.ls_live.proofs.Ends.{opened_in_order, all_done}
use Rattle.ls_live.specs.Due.{AreDue}
use Rattle.ls_schedule.specs.Records.{scheduled}
use Rattle.ls_live.proofs.playing.played.Goals as goal

pub run_live-requires-after_bounds : goal.run_live-requires-after_bounds
run_live-requires-after_bounds g c κs b =
    opened_in_order g.L.Session.seats c.in-Ok.opened.1.items c.in-Ok.ensures.seats c.in-Ok.ensures.seat

pub returns-in-Ok-close-clause-there : goal.returns-in-Ok-close-clause-there
returns-in-Ok-close-clause-there g c =
    let code = code_of_image c.args.image.now in
    let count : length g.L.Session.start.threads ≡ length code.starts =
    ap (λ (m : Machine). length m.threads) c.requires.start ∙ length-map code.starts _ in
    subst (λ (n : ℕ). All (λ t. t < n) (scheduled c.in-Ok-close.record)) count
    c.in-Ok-close.ensures.closed.record_from.there

pub returns-in-Ok-close-clause-due : goal.returns-in-Ok-close-clause-due
returns-in-Ok-close-clause-due g c =
    subst (λ (m : Machine). AreDue m (scheduled c.in-Ok-close.record)) c.requires.start
    c.in-Ok-close.ensures.closed.record_from.due

pub returns-in-Ok-close-clause-done : goal.returns-in-Ok-close-clause-done
returns-in-Ok-close-clause-done g c =
    let closed = c.in-Ok-close.ensures.closed in
    all_done g.L.Session.start g.L.Session.limit (code_of_image c.args.image.now) c.args.bounds.cells
    c.args.bounds.limit c.in-Ok-close.record c.in-Ok-run_live.worked.items
    c.requires.start c.requires.limit (closed.whole ∙ c.requires.seats.1) c.in-Ok-run_live.ensures.order closed.agreed
    c.in-Ok-run_live.ensures.told
