-- Why `lock_in` in src/shapes.rt keeps its contract.

use Rattle.std.proofs.Common.{ℕ, IfNone, sym, subst}
use Rattle.ls_checked.proofs.Rows.{block_made}
use Rattle.ls_checked.specs.Plain.{plain_statement, statements_of}
use Rattle.ls_guarded.specs.Shapes.{HoldsLock, LocksRun}
use Rattle.ls_guarded.proofs.Holding.{no_block}
use Rattle.ls_guarded.proofs.shapes.lock_in.Goals as goal

pub returns-in-Block : goal.returns-in-Block
returns-in-Block c = subst (λ s. IfNone c.lock_in_run.result ((c' f : ℕ) → HoldsLock c' f (plain_statement s) → ⊥))
    (sym c.in-Block.is)
    (subst (λ t. IfNone c.lock_in_run.result ((c' f : ℕ) → HoldsLock c' f t → ⊥)) (sym (block_made c.in-Block.ss))
    (no_block c.lock_in_run.result (statements_of c.in-Block.ss.items)
    (subst (λ xs. IfNone c.lock_in_run.result ((c' f : ℕ) → LocksRun c' f (statements_of xs) → ⊥)) c.deref.ensures.value
    c.lock_in_run.ensures)))
