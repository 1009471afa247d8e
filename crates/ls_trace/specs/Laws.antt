-- What holds of all traces that are folded.
use Rattle.std.specs.Prelude.{◌≡◌, ℕ, Bool, true, false, List, [], ◌∷◌, ◌++◌, flat_map}
use Rattle.std.specs.Fmt.{decimal}
use Rattle.ls_checked.specs.CheckedTree.{File}
use Rattle.ls_checked.specs.CheckedProgram.{Program}
use Rattle.ls_meaning.specs.Steps.{traced}
use Rattle.ls_meaning.specs.Runs.{State, history_of, source_step, step}
use Rattle.ls_report.specs.Events.{Text}
use Rattle.ls_labels.specs.Names.{Names}
use Rattle.ls_trace.specs.Folds.{Fold, told_between}
use Rattle.ls_trace.specs.Lines.{trace_text}
use Rattle.ls_trace.specs.Manners.{manner_of}
use Rattle.ls_trace.specs.declared.manner.Manner.{Manner}
use Rattle.ls_trace.specs.declared.manner.Manner.TheVariants as manners

-- the line that `trace` has of a step
abbrev pub plain_line : Fold → Text
plain_line f = decimal f.number ++ (32 ∷ (f.words ++ 10 ∷ []))

-- what is folded are the steps that `trace` tells
abbrev pub FoldsTheTrace : Type 0
FoldsTheTrace = (names : Names) (schedule : List ℕ) (from to : ℕ) →
    trace_text names schedule from to ≡ flat_map plain_line (told_between names schedule from to)

abbrev pub is_alone : Manner → Bool
is_alone manners.Alone = true
is_alone _ = false

-- a step that isn't told alone leaves the store as it was, and no event comes of it
pub record ChangesNothing (file : File) (program : Program) (s : State) (thread : ℕ) : Type 0 where
  pub store : (step file program s thread).after.store ≡ s.store
  pub events : history_of (traced (source_step file program s thread) []) ≡ []

abbrev pub FoldedChangeNothing : Type 0
FoldedChangeNothing = (file : File) (program : Program) (s : State) (thread : ℕ) →
    is_alone (manner_of (step file program s thread).did) ≡ false → ChangesNothing file program s thread
