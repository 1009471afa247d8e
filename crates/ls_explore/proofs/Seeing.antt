-- What is seen after a path, thread by thread.
use Rattle.std.proofs.Common.{◌≡◌, ◌⊎◌, inl, inr, ℕ, ◌+◌, ◌<◌, ◌≤◌, ◌||◌, Bool, true, false, None, Some, refl, sym, ◌∙◌}
use Rattle.std.proofs.Common.{subst, arith}
use Rattle.std.proofs.lemmas.Bool.{cases_lt}
use Rattle.ls_code.specs.Machine.{Machine, stops}
use Rattle.ls_code.specs.declared.step.Did.{Did}
use Rattle.ls_code.specs.declared.step.Did.TheVariants as did
use Rattle.ls_preservation.specs.Acting.{first_did}
use Rattle.ls_explore.specs.Bursts.{burst}
use Rattle.ls_explore.specs.declared.searching.Seen.{Seen}
use Rattle.ls_explore.specs.Walks.{has_acted}
use Rattle.ls_explore.specs.Searches.{IsSeen, seen_with}
use Rattle.ls_explore.proofs.Walks.{burst_first, none_first}

one_is_true : (a b : Bool) → (a || b) ≡ true → (a ≡ true) ⊎ (b ≡ true)
one_is_true true b e = inl refl
one_is_true false b e = inr e

both_are_false : (a b : Bool) → (a || b) ≡ false → (a ≡ false) × (b ≡ false)
both_are_false true b e = absurd cc
both_are_false false b e = (refl, e)

stopped_is : (d : Did) → stops d ≡ true → d ≡ did.Stopped
stopped_is did.Stopped e = refl
stopped_is did.Silent e = absurd cc
stopped_is (did.Acted a x) e = absurd cc
stopped_is did.Waits e = absurd cc
stopped_is did.Idle e = absurd cc

not_stopped : (d first : Did) → d ≡ first → stops d ≡ false → first ≡ did.Stopped → ⊥
not_stopped did.Stopped first is e h = absurd cc
not_stopped did.Silent first is e h = absurd cc
not_stopped (did.Acted a x) first is e h = absurd cc
not_stopped did.Waits first is e h = absurd cc
not_stopped did.Idle first is e h = absurd cc

-- nothing is seen of no thread
pub seen_of_none : (n : ℕ) (m : Machine) (s : Seen) → s.acts ≡ false → s.stops ≡ false → IsSeen n 0 m s
seen_of_none n m s acts stops = record {
  acting = λ e. absurd cc;
  quiet = λ e t lt. absurd (omega arith);
  full = λ e. absurd cc;
  roomy = λ e t lt. absurd (omega arith);
}

-- one thread more
module _ (n t : ℕ) (m : Machine) (s : Seen) (d : Did) (is : d ≡ first_did n m t) (h : IsSeen n t m s) where
  acting_more : (s.acts ≡ true) ⊎ (has_acted d ≡ true) →
      (u : ℕ) × (u < t + 1) × ((m' : Machine) × (burst n m u ≡ Some m'))
  acting_more (inl e) = let a = h.acting e in (a.0, omega (arith, a.1), a.2)
  acting_more (inr e) = (t, omega arith, burst_first n m t d is e)

  full_more : (s.stops ≡ true) ⊎ (stops d ≡ true) → (u : ℕ) × (u < t + 1) × (first_did n m u ≡ did.Stopped)
  full_more (inl e) = let a = h.full e in (a.0, omega (arith, a.1), a.2)
  full_more (inr e) = (t, omega arith, sym is ∙ stopped_is d e)

  quiet_more : (s.acts ≡ false) × (has_acted d ≡ false) → (u : ℕ) → u < t + 1 → (u < t) ⊎ (t ≤ u) → burst n m u ≡ None
  quiet_more e u lt (inl less) = h.quiet e.0 u less
  quiet_more e u lt (inr more) =
      let same : t ≡ u = omega arith in
      subst (λ v. burst n m v ≡ None) same (none_first n m t d is e.1)

  roomy_more : (s.stops ≡ false) × (stops d ≡ false) →
      (u : ℕ) →
      u < t + 1 →
      (u < t) ⊎ (t ≤ u) →
      first_did n m u ≡ did.Stopped →
      ⊥
  roomy_more e u lt (inl less) = h.roomy e.0 u less
  roomy_more e u lt (inr more) =
      let same : t ≡ u = omega arith in
      subst (λ v. first_did n m v ≡ did.Stopped → ⊥) same (not_stopped d (first_did n m t) is e.1)

  pub seen_more : IsSeen n (t + 1) m (seen_with s d)
  seen_more = record {
    acting = λ e. acting_more (one_is_true s.acts (has_acted d) e);
    quiet = λ e u lt. quiet_more (both_are_false s.acts (has_acted d) e) u lt (cases_lt u t);
    full = λ e. full_more (one_is_true s.stops (stops d) e);
    roomy = λ e u lt. roomy_more (both_are_false s.stops (stops d) e) u lt (cases_lt u t);
  }
