-- What comes of calls in states, one call and one state more.
use Rattle.std.proofs.Common.{◌≡◌, ◌⊎◌, inl, inr, ℕ, ◌+◌, ◌<◌, ◌≤◌, List, [], ◌∷◌, ◌++◌, Some, None}
use Rattle.std.proofs.Common.{length, slice_get, sym, ap, ◌∙◌, subst, arith}
use Rattle.std.proofs.lemmas.Bool.{cases_lt}
use Rattle.std.specs.declared.vec.Vec.{Vec}
use Rattle.std.specs.declared.alloc.Global.{Global}
use Rattle.ls_checked.specs.CheckedTree.{File}
use Rattle.ls_checked.specs.CheckedProgram.{Program}
use Rattle.ls_serial.proofs.Lists.{get_there, get_within, some_is}
use Rattle.ls_automaton.specs.declared.fate.Fate.{Fate}
use Rattle.ls_automaton.specs.declared.spots.Spot.{Spot}
use Rattle.ls_automaton.specs.Fates.{AreFates, AreFatesTo, AreStates, HasFate}
use Rattle.ls_automaton.specs.Spots.{AreSpots, Grows, schedules_of}
use Rattle.ls_automaton.proofs.Filled.{acting_to, pushed_get, serial_to}
use Rattle.ls_automaton.proofs.Reaching.{schedule_kept}

no_element : {A : Type 0} {x : A} → None ≡ Some x → ⊥
no_element h = cc

module _ (file : File) (program : Program) (bound : ℕ) where
  -- ---- of one state

  pub fates_none : (x : List ℕ) (fates : List Fate) → fates ≡ [] → AreFatesTo file program bound x fates
  fates_none x fates is t f at = absurd (no_element (sym (ap (λ l. slice_get l t) is) ∙ at))

  pub fates_more : (x : List ℕ) (n : ℕ) (fates : List Fate) (f : Fate) → n ≡ length fates →
      AreFatesTo file program bound x fates → HasFate file program bound x n f →
      AreFatesTo file program bound x (fates ++ f ∷ [])
  fates_more x n fates f many before last t g at = by_place (pushed_get fates f g t at)
    where
      by_place : (slice_get fates t ≡ Some g) ⊎ ((t ≡ length fates) × (f ≡ g)) → HasFate file program bound x t g
      by_place (inl there) = before t g there
      by_place (inr (same, is)) = subst (HasFate file program bound x t) is
          (subst (λ m. HasFate file program bound x m f) (many ∙ sym same) last)

  -- ---- of all states

  pub record IsFated (ways : List (List ℕ)) (n : ℕ) (row : List Fate) : Type 0 where
    pub way : List ℕ
    pub there : slice_get ways n ≡ Some way
    pub fates : AreFates file program bound way row

  abbrev pub AreFated : List Spot → List (Vec Fate Global) → Type 0
  AreFated spots fates =
      (n : ℕ) (row : Vec Fate Global) → slice_get fates n ≡ Some row → IsFated (schedules_of spots) n row.items

  pub fated_none : (spots : List Spot) (fates : List (Vec Fate Global)) → fates ≡ [] → AreFated spots fates
  fated_none spots fates is n row at = absurd (no_element (sym (ap (λ l. slice_get l n) is) ∙ at))

  pub fated_on : (old new : List Spot) (fates : List (Vec Fate Global)) (row : Vec Fate Global) (x : List ℕ) →
      Grows old new → AreFated old fates → slice_get (schedules_of old) (length fates) ≡ Some x →
      AreFates file program bound x row.items → AreFated new (fates ++ row ∷ [])
  fated_on old new fates row x grows before at own n z there = by_place (pushed_get fates row z n there)
    where
      last : IsFated (schedules_of new) (length fates) row.items
      last = record { way = x; there = schedule_kept old new (length fates) x grows at; fates = own }

      by_place : (slice_get fates n ≡ Some z) ⊎ ((n ≡ length fates) × (row ≡ z)) →
          IsFated (schedules_of new) n z.items
      by_place (inl inside) =
          let r = before n z inside in
          record { way = r.way; there = schedule_kept old new n r.way grows r.there; fates = r.fates }
      by_place (inr (same, is)) = subst (λ m. IsFated (schedules_of new) m z.items) (sym same)
          (subst (λ (v : Vec Fate Global). IsFated (schedules_of new) (length fates) v.items) is last)

  pub few_of : (spots : List Spot) (fates : List (Vec Fate Global)) → AreFated spots fates →
      length fates ≤ length (schedules_of spots)
  few_of spots fates are = by_less (cases_lt (length (schedules_of spots)) (length fates))
    where
      by_less : (length (schedules_of spots) < length fates) ⊎ (length fates ≤ length (schedules_of spots)) →
          length fates ≤ length (schedules_of spots)
      by_less (inr few) = few
      by_less (inl less) =
          let z = get_there fates (length (schedules_of spots)) less in
          let r = are (length (schedules_of spots)) z.0 z.1 in
          absurd (omega (arith, get_within (schedules_of spots) (length (schedules_of spots)) r.way r.there))

  pub fated_states : (spots : List Spot) (fates : List (Vec Fate Global)) → AreSpots file program spots →
      AreFated spots fates → AreStates file program bound (schedules_of spots) fates
  fated_states spots fates are fated = record {
    serial = λ n way at. serial_to file program bound spots n way are at;
    acts = λ n way at. acting_to file program bound spots n way are at;
    fates = λ n way row at there.
        let r = fated n row there in
        subst (λ x. AreFates file program bound x row.items) (some_is (sym r.there ∙ at)) r.fates;
    few = few_of spots fates fated;
  }
