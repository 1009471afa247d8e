-- The least cut of some schedules and of one more.
use Rattle.std.proofs.Common.{◌≡◌, ◌⊎◌, inl, inr, ℕ, zero, suc, List, [], ◌∷◌, ◌++◌, Some, None, length}
use Rattle.std.proofs.Common.{Option, refl, subst, arith, slice_get, Bool, true, false, cond, nat_lt, ltb-true}
use Rattle.std.proofs.Common.{ltb-false}
use Rattle.std.proofs.lemmas.Option.{same_Some}
use Rattle.ls_checked.specs.CheckedTree.{File}
use Rattle.ls_checked.specs.CheckedProgram.{Program}
use Rattle.ls_verdicts.specs.Cuts.{IsCut, IsLeast, IsLeastOf, IsNoShorter}
use Rattle.ls_meaning.specs.Runs.{source_history}
use Rattle.ls_verdicts.specs.Hopeless.{IsIllegal}
use Rattle.ls_verdicts.specs.declared.least.Cut.{Cut}

-- one list more at the end
at_last : (xs : List (List ℕ)) (x : List ℕ) → slice_get (xs ++ x ∷ []) (length xs) ≡ Some x
at_last [] x = refl
at_last (y ∷ ys) x = at_last ys x

stays_there : (xs : List (List ℕ)) (x y : List ℕ) (p : ℕ) → slice_get xs p ≡ Some y →
    slice_get (xs ++ x ∷ []) p ≡ Some y
stays_there [] x y p e = cc
stays_there (z ∷ zs) x y zero e = e
stays_there (z ∷ zs) x y (suc p) e = stays_there zs x y p e

there_or_last : (xs : List (List ℕ)) (x y : List ℕ) (p : ℕ) → slice_get (xs ++ x ∷ []) p ≡ Some y →
    (slice_get xs p ≡ Some y) ⊎ (x ≡ y)
there_or_last [] x y zero e = inr (same_Some x y e)
there_or_last [] x y (suc p) e = inl e
there_or_last (z ∷ zs) x y zero e = inl e
there_or_last (z ∷ zs) x y (suc p) e = there_or_last zs x y p e

module _ (file : File) (program : Program) (schedules : List (List ℕ)) (schedule : List ℕ) where
  abbrev more : List (List ℕ)
  more = schedules ++ schedule ∷ []

  -- none of one more is illegal
  pub none_more : IsLeastOf file program schedules None → ¬ IsIllegal program (source_history file program schedule) →
      IsLeastOf file program more None
  none_more so nay p other e = by (there_or_last schedules schedule other p e)
    where
      by : (slice_get schedules p ≡ Some other) ⊎ (schedule ≡ other) →
          ¬ IsIllegal program (source_history file program other)
      by (inl there) = so p other there
      by (inr same) = subst (λ (ts : List ℕ). ¬ IsIllegal program (source_history file program ts)) same nay

  -- the cut stays, since one more isn't cut shorter
  pub least_on : (cut : Cut) → IsLeast file program schedules cut → IsNoShorter file program cut.steps schedule →
      IsLeast file program more cut
  least_on cut so nay = record {
    schedule = so.schedule;
    there = stays_there schedules schedule so.schedule cut.place so.there;
    illegal = so.illegal;
    cut = so.cut;
    least = λ p other e. by p other (there_or_last schedules schedule other p e);
  }
    where
      by : (p : ℕ) (other : List ℕ) → (slice_get schedules p ≡ Some other) ⊎ (schedule ≡ other)
          → IsNoShorter file program cut.steps other
      by p other (inl there) = so.least p other there
      by p other (inr same) = subst (IsNoShorter file program cut.steps) same nay

  -- one more is cut, and each before it isn't cut shorter
  pub least_new : (n : ℕ) → IsIllegal program (source_history file program schedule) → IsCut file program schedule n →
      ((p : ℕ) (other : List ℕ) → slice_get schedules p ≡ Some other → IsNoShorter file program n other) →
      IsLeast file program more (record { place = length schedules; steps = n })
  least_new n whole is others = record {
    schedule = schedule;
    there = at_last schedules schedule;
    illegal = whole;
    cut = is;
    least = λ p other e. by p other (there_or_last schedules schedule other p e);
  }
    where
      by : (p : ℕ) (other : List ℕ) → (slice_get schedules p ≡ Some other) ⊎ (schedule ≡ other)
          → IsNoShorter file program n other
      by p other (inl there) = others p other there
      by p other (inr same) = subst (IsNoShorter file program n) same (λ h m lt. is.legal m lt)

  -- the shorter of both is a least cut
  pub least_of_both : (c : Cut) (n : ℕ) → IsLeast file program schedules c →
      IsIllegal program (source_history file program schedule) → IsCut file program schedule n →
      IsLeast file program more (cond (nat_lt n c.steps) (record { place = length schedules; steps = n }) c)
  least_of_both c n so whole is = by (nat_lt n c.steps) refl
    where
      by : (b : Bool) → nat_lt n c.steps ≡ b →
          IsLeast file program more (cond b (record { place = length schedules; steps = n }) c)
      by true e = least_new n whole is (λ p other there h m lt. let less = ltb-true n c.steps e in
          so.least p other there h m (omega arith))
      by false e = least_on c so (λ h m lt. let less = ltb-false n c.steps e in is.legal m (omega arith))

  -- the cut so far stays, if one more isn't illegal
  pub least_as_it_was : (least : Option Cut) → IsLeastOf file program schedules least →
      ¬ IsIllegal program (source_history file program schedule) →
      IsLeastOf file program more least
  least_as_it_was None so nay = none_more so nay
  least_as_it_was (Some c) so nay = least_on c so (λ h m lt. absurd (nay h))
