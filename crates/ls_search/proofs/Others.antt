-- States by numbers under other numbers of objects.
use Rattle.std.proofs.Common.{◌≡◌, ◌⊎◌, inl, inr, ℕ, ◌<◌, ◌≤◌, List, length, Option, None, Some, refl, sym, ap, ◌∙◌}
use Rattle.std.proofs.Common.{subst, arith}
use Rattle.std.specs.Prelude.{slice_get, slice_index_or}
use Rattle.std.proofs.lemmas.Bool.{cases_lt}
use Rattle.std.proofs.lemmas.Option.{get_or_from_slice_get, slice_get_past}
use Rattle.ls_meaning.specs.Constants.{FileHasConstants}
use Rattle.ls_meaning.specs.Course.{Answers}
use Rattle.ls_meaning.specs.Renamings.{renamed_answers, renamed_next}
use Rattle.ls_meaning.specs.Store.{Store}
use Rattle.ls_search_laws.specs.Renaming.{IsRenamedStore}
use Rattle.ls_source.specs.Calls.{Thread}
use Rattle.ls_source.specs.Kept.{means}
use Rattle.ls_transitions.specs.Tables.{Table, Grows}
use Rattle.ls_transitions.proofs.Keeping.{below, there}
use Rattle.ls_works.proofs.Frames.{threads_rename}
use Rattle.ls_renaming.specs.Renumbered.{IsRenumbered}
use Rattle.ls_search.specs.Places.{AreThere, configuration_at, goes_with, no_store}
use Rattle.ls_search.specs.Searched.{IsOther}
use Rattle.ls_search.proofs.Likeness.{other_same}
use Rattle.ls_search.proofs.Strides.{stays}

none_not : {A : Type 0} {x : A} → None ≡ Some x → ⊥
none_not h = cc

module _ (t : Table) (store : ℕ) (works : List ℕ) (other : ℕ) (others : List ℕ) (constants : FileHasConstants t.file)
    (h : IsRenumbered t store works other others) where
  goes : (u : ℕ) (later : Answers) (o : Option ℕ) → slice_get others u ≡ o →
      goes_with t (slice_get works u) (renamed_answers h.names later) ≡ renamed_next h.names (goes_with t o later)
  goes u later None e = by_place (cases_lt u (length others))
    where
      by_place : (u < length others) ⊎ (length others ≤ u) →
          goes_with t (slice_get works u) (renamed_answers h.names later) ≡
          renamed_next h.names (goes_with t None later)
      by_place (inl less) = absurd (none_not (sym e ∙ (there others u less).1))
      by_place (inr past) =
          let far : length works ≤ u = omega (arith, past, h.width) in
          ap (λ (x : Option ℕ). goes_with t x (renamed_answers h.names later)) (slice_get_past works u far)
  goes u later (Some work) e =
      let w = h.works_there u work e in
      ap (λ (x : Option ℕ). goes_with t x (renamed_answers h.names later)) w.1
      ∙ ap (λ (x : Option Thread). means t.file t.program x (renamed_answers h.names later)) w.2.old_is
      ∙ threads_rename t.file t.program constants h.names h.renaming w.2.thread w.2.constants later
      ∙ ap (λ (x : Option Thread). renamed_next h.names (means t.file t.program x later)) (sym w.2.new_is)

  same_store : IsRenamedStore h.names (configuration_at t other others).store (configuration_at t store works).store
  same_store =
      let new : slice_index_or t.stores other no_store ≡ h.store_there.new =
      get_or_from_slice_get t.stores other h.store_there.new no_store h.store_there.new_is in
      let old : slice_index_or t.stores store no_store ≡ h.store_there.old =
      get_or_from_slice_get t.stores store h.store_there.old no_store h.store_there.old_is in
      subst (λ (s : Store). IsRenamedStore h.names s (slice_index_or t.stores store no_store)) (sym new)
      (subst (λ (s : Store). IsRenamedStore h.names h.store_there.new s) (sym old) h.store_there.same)

  renumbered : IsOther (configuration_at t other others) (configuration_at t store works)
  renumbered = record {
    names = h.names;
    renaming = h.renaming;
    same = record { store = same_store; continues = λ u later. goes u later (slice_get others u) refl };
  }

-- what has numbers has them after that
pub there_renumbered : (t : Table) (store : ℕ) (works : List ℕ) (other : ℕ) (others : List ℕ) →
    IsRenumbered t store works other others →
    AreThere t other others
there_renumbered t store works other others h = record {
  store_there = below t.stores other h.store_there.new h.store_there.new_is;
  works_there = λ u work e. let w = h.works_there u work e in below t.works work w.2.thread w.2.new_is;
}

module _ (t t' : Table) (store : ℕ) (works : List ℕ) (numbers : AreThere t store works) (grows : Grows t t') where
  pub other_renumbered : (other : ℕ) (others : List ℕ) → FileHasConstants t.file →
      IsRenumbered t' store works other others →
      IsOther (configuration_at t' other others) (configuration_at t store works)
  other_renumbered other others constants h =
      subst (IsOther (configuration_at t' other others)) (stays t t' store works grows numbers)
      (renumbered t' store works other others (subst FileHasConstants (sym grows.file) constants) h)

  pub other_stays : IsOther (configuration_at t' store works) (configuration_at t store works)
  other_stays =
      subst (IsOther (configuration_at t' store works)) (stays t t' store works grows numbers)
      (other_same (configuration_at t' store works))
