-- Of which steps a call is to end.
use Rattle.std.specs.Prelude.{ℕ, Bool, not, nat_eq, false, ◌||◌, if◌then◌else◌}
use Rattle.ls_graph.specs.declared.closing.Edge.{Edge}
use Rattle.ls_progress_laws.specs.Progress as progress
use Rattle.ls_progress.specs.Sorts.{is_silent, sort_at}
use Rattle.ls_progress.specs.declared.kinds.Kind.{Kind}
use Rattle.ls_progress.specs.declared.kinds.Kind.TheVariants as kinds

abbrev pub kind_of : Kind → ℕ → progress.Kind
kind_of kinds.WaitFree t = progress.wait_free t
kind_of kinds.LockFree t = progress.lock_free t
kind_of kinds.ObstructionFree t = progress.obstruction_free t

-- the edge's thread may step, and no call that mustn't begins or ends with the step
abbrev pub is_kept : progress.Kind → Edge → Bool
is_kept kind e = if not (kind.may e.actor) then false else is_silent (sort_at e.mark) || not (kind.quiet e.actor)

abbrev pub is_own : ℕ → Edge → Bool
is_own t e = nat_eq e.actor t
