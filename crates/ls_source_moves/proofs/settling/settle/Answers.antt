-- Why `settle` in src/settling.rt keeps its contract.

use Rattle.std.proofs.Common.{◌<◌, sym, ap, subst, ◌∙◌}
use Rattle.ls_checked.specs.Plain.{plain_file}
use Rattle.ls_source_pending.specs.Pending.{State}
use Rattle.ls_source_pending.specs.Meaning.{meaning}
use Rattle.ls_source_pending.specs.SeenPending.{state_of}
use Rattle.ls_source_moves.proofs.Fusion.{moved_keeps}
use Rattle.ls_source_moves.proofs.Weights.{burden}
use Rattle.ls_source_moves.proofs.Measure.{moved_less}
use Rattle.ls_source_moves.proofs.settling.settle.Goals as goal

pub moves-smaller : goal.moves-smaller
moves-smaller c =
    let P : State → Type 0 = λ s. burden (plain_file c.args.file.now) s < burden (plain_file c.args.file.now)
    (state_of c.moves.pending) in
    subst P (sym c.in_ok-advance.ensures.ok) (moved_less (plain_file c.args.file.now) (state_of c.moves.pending)
    (sym c.moves-test.ensures))

pub moves-preserved : goal.moves-preserved
moves-preserved c = λ base q.
    ap (λ s. meaning (plain_file c.args.file.now) base s q) c.in_ok-advance.ensures.ok
    ∙ moved_keeps (plain_file c.args.file.now) base (state_of c.moves.pending) q
    ∙ c.moves.invariant base q
