-- The statuses of what is printed where none is found.
use Rattle.std.proofs.Common.{◌≡◌, ◌∙◌, ◌<◌, ℕ, zero, suc, [], ◌∷◌, ◌++◌, ap, arith, refl, subst}
use Rattle.std.specs.Prelude.{if◌then◌else◌}
use Rattle.ls_find_reports.specs.Printing.{figures_line, none_line, none_text}
use Rattle.ls_find_reports.specs.StatusLaws.{NoneBesideIsFive, NoneIsFourIfCut}
use Rattle.ls_find_reports.specs.Statuses.{behind, status_of, warns}
use Rattle.ls_find_reports.proofs.Lines.{figures_lack, none_split}
use Rattle.ls_report.proofs.CutLemmas.{cut_at, without}
use Rattle.ls_report.specs.Events.{Text}

pub four_if_cut : NoneIsFourIfCut
four_if_cut f below some = by_cut f.cut refl some
  where
    text : ℕ → Text
    text m = none_line m ++ (10 ∷ (figures_line f ++ 10 ∷ []))

    by_cut : (n : ℕ) → n ≡ f.cut → 0 < f.cut → status_of (none_text f ++ below) ≡ 4
    by_cut zero is some = absurd (omega (arith, is, some))
    by_cut (suc n) is some = subst (λ m. status_of (text m ++ below) ≡ 4) is refl

pub five_if_warned : NoneBesideIsFive
five_if_warned f below are none =
    ap (λ t. status_of t) (none_split f below ∙ ap (λ n. none_line n ++ 10 ∷ (figures_line f ++ 10 ∷ below)) none)
    ∙ ap (λ t. if warns t then 5 else 0) (ap (λ o. behind o) (cut_at 10 (figures_line f) below
    (without 10 (figures_line f) (figures_lack f are))))
