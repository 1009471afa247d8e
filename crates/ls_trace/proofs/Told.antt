-- What is folded are the steps that `trace` tells.
use Rattle.std.proofs.Common.{◌≡◌, ℕ, ◌+◌, Bool, true, false, List, [], ◌∷◌, ◌++◌, refl, ap, take}
use Rattle.std.specs.Prelude.{flat_map, map, nat_le, if◌then◌else◌}
use Rattle.ls_report.specs.Events.{Text}
use Rattle.ls_labels.specs.Names.{Names}
use Rattle.ls_trace.specs.Told.{Told, after_step, begun}
use Rattle.ls_trace.specs.Lines.{lines}
use Rattle.ls_trace.specs.Folds.{Fold, counted, step_told, steps_told}
use Rattle.ls_trace.specs.Laws.{FoldsTheTrace, plain_line}

one_told : (b : Bool) (step : Fold) (text : Text) (steps : List Fold) → text ≡ flat_map plain_line steps →
    (if b then plain_line step else []) ++ text ≡ flat_map plain_line ((if b then step ∷ [] else []) ++ steps)
one_told true step text steps e = ap (λ l. plain_line step ++ l) e
one_told false step text steps e = e

lines_told : (names : Names) (from number : ℕ) (counts : List ℕ) (r : Told) (ts : List ℕ) →
    lines names from number r ts ≡ flat_map plain_line (steps_told names from number counts r ts)
lines_told names from number counts r [] = refl
lines_told names from number counts r (t ∷ ts) =
    one_told (nat_le from number) (step_told names number (counted counts t) r (after_step names r t) t) _ _
    (lines_told names from (number + 1) (counted counts t) (after_step names r t) ts)

pub folds_the_trace : FoldsTheTrace
folds_the_trace names schedule from to = lines_told names from 1 (map (λ t. 0) names.program.threads)
    (begun names.program) (take to schedule)
