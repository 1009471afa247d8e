-- Why `rename_thread` in src/phases.rt keeps its contract.

use Rattle.std.proofs.Common.{◌≡◌, ℕ, Option, drop, map, ap, ◌∙◌, subst}
use Rattle.std.specs.Prelude.{IfSome}
use Rattle.ls_checked.specs.PlainProgram.{plain_call}
use Rattle.ls_source_pending.specs.Pending.{State}
use Rattle.ls_source_pending.specs.SeenPending.{state_of}
use Rattle.ls_source.specs.SeenThread.{phase_of}
use Rattle.ls_source.specs.declared.thread.Phase.{Phase}
use Rattle.ls_works.specs.Frames.{renamed_phase, renamed_work}
use Rattle.ls_renaming.specs.Seen.{names_of}
use Rattle.ls_renaming.proofs.phases.rename_thread.Goals as goal

pub returns : goal.returns
returns c =
    let f : ℕ → ℕ = names_of c.args.names.now in
    let renames : (old : State) →
    phase_of c.in-Some.phase (renamed_work f old) ≡ renamed_phase f (phase_of c.args.thread.now.phase old) =
    subst (λ (o : Option Phase). IfSome o (λ p. (old : State) →
    phase_of p (renamed_work f old) ≡ renamed_phase f (phase_of c.args.thread.now.phase old))) c.in-Some.is
    c.in_ok-phase.ensures in
    let phase : phase_of c.in-Some.phase (state_of c.in_ok-work.work) ≡
    renamed_phase f (phase_of c.args.thread.now.phase (state_of c.args.thread.now.work)) =
    ap (phase_of c.in-Some.phase) c.in_ok-work.ensures ∙ renames (state_of c.args.thread.now.work) in
    λ i. record {
      number = c.args.thread.now.begun;
      left = drop c.args.thread.now.begun (map plain_call c.args.thread.now.calls.now);
      phase = phase i;
    }
