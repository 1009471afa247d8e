-- What `settle` in src/settling.rt keeps, and why it ends.

use Rattle.std.proofs.Common.{◌≡◌}
use Rattle.ls_checked.specs.Plain.{plain_file}
use Rattle.ls_meaning.specs.Course.{Answers}
use Rattle.ls_source_pending.specs.Meaning.{meaning, Rest}
use Rattle.ls_source_pending.specs.SeenPending.{state_of}
use Rattle.ls_source_moves.proofs.Weights.{burden}
use Rattle.ls_source_moves.proofs.settling.settle.Given as goal

abbrev pub invariant-moves : goal.invariant-moves
invariant-moves l = (base : Rest) (q : Answers) → meaning (plain_file l.fn.file) base (state_of l.pending) q ≡ meaning
    (plain_file l.fn.file) base (state_of l.fn.pending) q

abbrev pub decreases-moves : goal.decreases-moves
decreases-moves l = burden (plain_file l.fn.file) (state_of l.pending)
