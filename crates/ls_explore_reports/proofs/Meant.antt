-- What is said of rows' linearizability is so.
use Rattle.std.proofs.Common.{◌≡◌, ◌⊎◌, inl, inr, ℕ, Bool, true, false, ◌&&◌, List, refl}
use Rattle.ls_events.specs.declared.event.Event.{Event}
use Rattle.ls_checked.specs.CheckedTree.{File}
use Rattle.ls_checked.specs.CheckedProgram.{Program}
use Rattle.ls_explore.specs.Rows.{Told}
use Rattle.ls_explore.specs.Tellings.{TellTruth, TellWhole}
use Rattle.ls_explore_reports.specs.Linearizable.{ExplainedIsLinearizable, LinearizableIsExplained}
use Rattle.ls_linearity.specs.declared.judging.Linearity.{Linearity}
use Rattle.ls_linearity.specs.declared.judging.Linearity.TheVariants as linearities
use Rattle.ls_linearity.specs.Meant.{IsMeant}
use Rattle.ls_linearizable.specs.Linearizable.{IsLinearizable}
use Rattle.ls_explore_reports.specs.Rows.{RowsExplain}
use Rattle.ls_explore_reports.specs.Judged.{IsLinearity, rows_of}
use Rattle.ls_explore_reports.specs.Laws.{LinearityIsMeant}

both_true : (a b : Bool) → (a && b) ≡ true → (a ≡ true) × (b ≡ true)
both_true true b e = (refl, e)
both_true false b e = absurd cc

-- linearizable, by the rows or by the program alone
pub so_linearizable : ExplainedIsLinearizable → (file : File) (program : Program) (k : ℕ) (rows : List Told)
    (h : List Event) → TellTruth file program k rows → RowsExplain rows h ⊎ IsLinearizable file program h →
    IsLinearizable file program h
so_linearizable explained file program k rows h truth (inl told) = explained file program k rows h truth told
so_linearizable explained file program k rows h truth (inr so) = so

is_meant : ExplainedIsLinearizable → LinearizableIsExplained → (file : File) (program : Program) (k : ℕ)
    (complete roomy : Bool) (rows : List Told) → TellTruth file program k rows →
    (complete ≡ true → roomy ≡ true → TellWhole file program rows) → (h : List Event) (l : Linearity) →
    IsLinearity file program (complete && roomy) rows h l → IsMeant file program h l
is_meant explained whole file program k complete roomy rows truth all h linearities.Linearizable is =
    so_linearizable explained file program k rows h truth is
is_meant explained whole file program k complete roomy rows truth all h linearities.NotLinearizable is = by_either is
  where
    by_either : (¬ IsLinearizable file program h) ⊎ (¬ RowsExplain rows h × ((complete && roomy) ≡ true)) →
        ¬ IsLinearizable file program h
    by_either (inl not) = not
    by_either (inr (none, each)) =
        let sure = both_true complete roomy each in
        λ linearizable. none (whole file program rows h (all sure.0 sure.1) linearizable)
is_meant explained whole file program k complete roomy rows truth all h linearities.LongCall is = is.2
is_meant explained whole file program k complete roomy rows truth all h linearities.ManyStates is = is.2

pub are_meant : ExplainedIsLinearizable → LinearizableIsExplained → LinearityIsMeant
are_meant explained whole file program k complete roomy judged truth all told = λ n d lt.
    is_meant explained whole file program k complete roomy (rows_of judged) truth all _ _ (told n d lt)
