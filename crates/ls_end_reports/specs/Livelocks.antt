-- The line of a livelock.
use Rattle.std.specs.Prelude.{◌≡◌, ◌++◌, ℕ, List, codes}
use Rattle.ls_progress.specs.declared.lassos.Lasso.{Lasso}
use Rattle.ls_report.specs.Events.{Text}
use Rattle.ls_end_reports.specs.Written.{IsLassoText}

abbrev pub livelock_text : Text → Text
livelock_text lasso =
    codes "// livelock: no call ends, though each thread goes on: " ++ (lasso ++ codes "\n")

-- the text in it is read as the way and ten rounds of the cycle
pub record IsLivelockLine (names : List (List ℕ)) (l : Lasso) (line : Text) : Type 0 where
  pub lasso : Text
  pub reads : IsLassoText names l lasso
  pub is : line ≡ livelock_text lasso
