-- Rows that are all explained.
use Rattle.std.proofs.Common.{◌≡◌, ℕ, zero, suc, Bool, true, false, Decides, List, [], ◌∷◌, Some, None, Contains}
use Rattle.std.proofs.Common.{slice_get, refl, sym, ◌∙◌, subst, arith}
use Rattle.std.specs.List.{AllZip}
use Rattle.ls_explore.specs.Rows.{Told}
use Rattle.ls_serial.proofs.Lists.{some_is}
use Rattle.ls_explore_reports.specs.Linearizable.{count_unexplained}

module _ (P : Told → Type 0) where
  -- where no flag is down, it is so of each row
  pub all_flagged : (rows : List Told) (flags : List Bool) →
      AllZip (λ (r : Told) b. Decides b (P r)) rows flags →
      count_unexplained flags ≡ 0 →
      (r : Told) →
      Contains rows r →
      P r
  all_flagged [] flags all none r (k, lt, is) = absurd (omega arith)
  all_flagged (q ∷ rows) [] all none r there = absurd all
  all_flagged (q ∷ rows) (true ∷ flags) all none r (zero, lt, is) = subst P is (all.0.0 refl)
  all_flagged (q ∷ rows) (true ∷ flags) all none r (suc k, lt, is) =
      all_flagged rows flags all.1 none r (k, omega arith, is)
  all_flagged (q ∷ rows) (false ∷ flags) all none r there = absurd (some_down none)
    where
      some_down : suc (count_unexplained flags) ≡ 0 → ⊥
      some_down e = omega arith

  -- where a flag is down, it is not so of its row
  pub flag_down : (rows : List Told) (flags : List Bool) (i : ℕ) (r : Told) →
      AllZip (λ (r : Told) b. Decides b (P r)) rows flags →
      slice_get rows i ≡ Some r →
      slice_get flags i ≡ Some false →
      P r →
      ⊥
  flag_down [] flags i r all at down p = absurd (nothing at)
    where
      nothing : None ≡ Some r → ⊥
      nothing e = cc
  flag_down (q ∷ rows) [] i r all at down p = absurd all
  flag_down (q ∷ rows) (b ∷ flags) zero r all at down p =
      apart (sym (some_is down) ∙ all.0.1 (subst P (sym (some_is at)) p))
    where
      apart : false ≡ true → ⊥
      apart h = cc
  flag_down (q ∷ rows) (b ∷ flags) (suc i) r all at down p = flag_down rows flags i r all.1 at down p
