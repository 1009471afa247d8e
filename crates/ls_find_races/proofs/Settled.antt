-- What a search for programs that are good for what is looked for, and whose accesses never meet, says of those that it
-- passes. And a search for data races that goes on from a number on, as one of all numbers.
use Rattle.std.proofs.Common.{◌≡◌, ◌∙◌, ◌⊎◌, inl, inr, ◌+◌, ◌<◌, ◌≤◌, ℕ, zero, suc, true, List, [], ◌∷◌}
use Rattle.std.proofs.Common.{Option, Some, None, ap, arith, length, refl, subst, sym}
use Rattle.std.specs.Prelude.{replicate, slice_get}
use Rattle.std.proofs.lemmas.List.{length-append, length-replicate}
use Rattle.ls_checked.specs.CheckedTree.{File}
use Rattle.ls_checked.specs.CheckedProgram.{Program}
use Rattle.ls_families.specs.Families.{Plan, plans}
use Rattle.ls_family_search.specs.Judged.{IsPassed, Programs, StandsFrom, text_of}
use Rattle.ls_family_search.specs.Searched.{EndsSo, PassesAt}
use Rattle.ls_family_search.specs.declared.judging.Halted.{Halted}
use Rattle.ls_family_search.specs.declared.judging.Passed.{Passed}
use Rattle.ls_family_search.specs.declared.judging.Passed.TheVariants as passed
use Rattle.ls_family_search.specs.declared.searching.Finding.{Finding}
use Rattle.ls_family_search.proofs.Outcomes.{each_of_both}
use Rattle.ls_family_search.proofs.Passing.{passed_good}
use Rattle.ls_find.specs.Family.{IsFound}
use Rattle.ls_find.specs.Found.{IsCut, IsSound, IsWhy, Text}
use Rattle.ls_find.specs.Sought.{EndsWell, IsGoodFor}
use Rattle.ls_find.specs.declared.explorer.Why.{Why}
use Rattle.ls_find.specs.declared.sought.Sought.{Sought}
use Rattle.ls_specification.specs.Specification.{Given}
use Rattle.ls_spinning.specs.Turning.{NeverTurns}
use Rattle.ls_find_races.specs.Family.{IsRaceFinding, PassedAreFree}
use Rattle.ls_find_races.specs.Quiet.{FirstAreFree, GoesOnFrom, IsQuiet, IsQuietFinding, but_turning}
use Rattle.ls_find_races.specs.Raced.{IsNotSaid, IsRaceFree, IsRaceWhy}
use Rattle.ls_find_races.specs.declared.explorer.RaceWhy.{RaceWhy}
use Rattle.ls_find_races.specs.declared.quiet.Unsettled.{Unsettled}

-- where threads never turn for ever, none does in a call that ends where calls run one at a time
pub good_for : (sought : Sought) (given : Given) (file : File) (program : Program) →
    EndsWell sought given file program → (sought.turning ≡ true → NeverTurns file program) →
    IsGoodFor sought given file program
good_for sought given file program ends never = record {
  ends = ends;
  turns = λ up schedule c turns pending. absurd (never up schedule turns);
}

-- what is looked for but for turning is looked for with it
pub ends_for : (sought t : Sought) (given : Given) (file : File) (program : Program) → t ≡ but_turning sought →
    IsGoodFor t given file program →
    EndsWell sought given file program
ends_for sought t given file program is good =
    let without = subst (λ (s : Sought). IsGoodFor s given file program) is good in
    record { good = without.ends.good; legal = without.ends.legal }

some_is : {X : Type 0} {x y : X} → Some x ≡ Some y → x ≡ y
some_is e = cc

none_is : {X : Type 0} {y : X} → None ≡ Some y → ⊥
none_is e = cc

got_within : {X : Type 0} (xs : List X) (n : ℕ) (x : X) → slice_get xs n ≡ Some x → n < length xs
got_within [] n x got = absurd (none_is got)
got_within (y ∷ xs) zero x got = omega arith
got_within (y ∷ xs) (suc n) x got = omega (arith, got_within xs n x got)

got_at : {X : Type 0} (xs : List X) (n : ℕ) → n < length xs → (x : X) × (slice_get xs n ≡ Some x)
got_at [] n within = absurd (omega (arith, within))
got_at (x ∷ xs) zero within = (x, refl)
got_at (x ∷ xs) (suc n) within = got_at xs n (omega (arith, within))

-- ---- what such a search has passed

module _ (sought : Sought) (states : ℕ) (specification : Option Text) (classes : Text) (p : Programs) (from to : ℕ)
    (f : Finding Unsettled) (found : IsQuietFinding sought specification classes p from to f) where
  uncut : (k : ℕ) → slice_get f.passed.items k ≡ Some passed.Cut → ⊥
  uncut k cut = (found.passed k passed.Cut cut).2

  each_quiet : (n : ℕ) (plan : Plan) → n < length f.passed.items → slice_get (plans p.family) (from + n) ≡ Some plan →
      IsQuiet sought specification classes (text_of p plan)
  each_quiet n plan within there =
      passed_good p (IsQuiet sought specification classes) (λ program. ⊥) from f.passed.items found.passed n plan within
      there (λ k up cut. uncut k cut)

  passed_sound : (k : ℕ) (said : Passed) → slice_get f.passed.items k ≡ Some said →
      PassesAt p (IsSound sought specification classes) (IsCut sought states specification classes) from (from + k) said
  passed_sound k said at = by_said said at (found.passed k said at)
    where
      by_said : (said : Passed) → slice_get f.passed.items k ≡ Some said →
          PassesAt p (IsQuiet sought specification classes) (λ program. ⊥) from (from + k) said →
          PassesAt p (IsSound sought specification classes) (IsCut sought states specification classes) from (from + k)
          said
      by_said passed.Double at (plan, there, double) =
          let quiet = each_quiet k plan (got_within f.passed.items k passed.Double at) there in (
            plan,
            there,
            record {
              follows = record { double = double.follows.double; good = λ other. quiet.sound };
              known = inr quiet.sound;
            },
          )
      by_said passed.Good at (plan, there, quiet) = (plan, there, quiet.sound)
      by_said passed.Cut at (plan, there, none) = absurd none

  -- it is what a search for what else is looked for finds, up to where it ends
  pub found_sound : (g : Finding Why) → g.passed.items ≡ f.passed.items → g.halted ≡ None →
      IsFound sought states specification classes p from (from + length f.passed.items) g
  found_sound g same none = record {
    passed = subst (λ ps. (k : ℕ) (said : Passed) → slice_get ps k ≡ Some said →
        PassesAt p (IsSound sought specification classes) (IsCut sought states specification classes) from (from + k)
        said) (sym same) passed_sound;
    ends = subst (λ (h : Option (Halted Why)). EndsSo p (IsWhy sought specification classes)
        (from + length g.passed.items)
        (from + length f.passed.items) h) (sym none) (ap (λ ps. from + length ps) same);
  }

  pub first_free : from ≡ 0 → FirstAreFree classes p (length f.passed.items)
  first_free first n plan within there =
      let same : n ≡ from + n = omega (arith, first) in
      (each_quiet n plan within (subst (λ m. slice_get (plans p.family) m ≡ Some plan) same there)).free

-- ---- a search for data races from a number on

from_replicated : {X : Type 0} (n : ℕ) (y : X) (k : ℕ) (x : X) → slice_get (replicate n y) k ≡ Some x →
    (k < n) × (y ≡ x)
from_replicated zero y k x got = absurd (none_is got)
from_replicated (suc n) y zero x got = (omega arith, some_is got)
from_replicated (suc n) y (suc k) x got =
    let more = from_replicated n y k x got in (omega (arith, more.0), more.1)

module _ (states : ℕ) (classes : Text) (p : Programs) where
  -- what is passed so in a range is passed so in one that begins before it
  from_before : (from mid n : ℕ) (said : Passed) → from ≤ mid →
      PassesAt p (IsRaceFree classes) (IsNotSaid states classes) mid n said →
      PassesAt p (IsRaceFree classes) (IsNotSaid states classes) from n said
  from_before from mid n said before (plan, there, is) = (plan, there, by_said said is)
    where
      known : StandsFrom p mid n plan ⊎ IsRaceFree classes (text_of p plan) →
          StandsFrom p from n plan ⊎ IsRaceFree classes (text_of p plan)
      known (inl s) =
          inl (record { number = s.number; first = omega (arith, s.first, before); before = s.before; there = s.there })
      known (inr good) = inr good

      by_said : (said : Passed) → IsPassed p (IsRaceFree classes) (IsNotSaid states classes) mid n plan said →
          IsPassed p (IsRaceFree classes) (IsNotSaid states classes) from n plan said
      by_said passed.Double double = record { follows = double.follows; known = known double.known }
      by_said passed.Good good = good
      by_said passed.Cut cut = cut

  module _ (many to : ℕ) (f all : Finding RaceWhy) (there : many ≤ length (plans p.family))
      (free : FirstAreFree classes p many) (found : IsRaceFinding states classes p many to f)
      (on : GoesOnFrom many f all) where
    first_passed : (k : ℕ) (said : Passed) → slice_get (replicate many passed.Good) k ≡ Some said →
        PassesAt p (IsRaceFree classes) (IsNotSaid states classes) 0 (0 + k) said
    first_passed k said got =
        let is = from_replicated many passed.Good k said got in
        let same : k ≡ 0 + k = omega arith in
        let at = got_at (plans p.family) k (omega (arith, is.0, there)) in
        subst (λ n. PassesAt p (IsRaceFree classes) (IsNotSaid states classes) 0 n said) same
        (subst (PassesAt p (IsRaceFree classes) (IsNotSaid states classes) 0 k) is.1
        (at.0, at.1, free k at.0 is.0 at.1))

    pub after_free : IsRaceFinding states classes p 0 to all
    after_free =
        let many_are = length-replicate many passed.Good in record {
          passed = subst (λ ps. (k : ℕ) (said : Passed) → slice_get ps k ≡ Some said →
              PassesAt p (IsRaceFree classes) (IsNotSaid states classes) 0 (0 + k) said) (sym on.passed)
              (each_of_both (λ k said. PassesAt p (IsRaceFree classes) (IsNotSaid states classes) 0 (0 + k) said)
              (replicate many passed.Good) f.passed.items first_passed
              (λ k said got.
              let same : many + k ≡ 0 + (length (replicate many passed.Good) + k) = omega (arith, many_are) in
              subst (λ n. PassesAt p (IsRaceFree classes) (IsNotSaid states classes) 0 n said) same
              (from_before 0 many (many + k) said (omega arith) (found.passed k said got))));
          ends =
              let count = ap length on.passed ∙ length-append (replicate many passed.Good) f.passed.items in
              let same : many + length f.passed.items ≡ 0 + length all.passed.items =
              omega (arith, count, many_are) in
              subst (λ (h : Option (Halted RaceWhy)). EndsSo p (IsRaceWhy classes) (0 + length all.passed.items) to h)
              (sym on.halted)
              (subst (λ n. EndsSo p (IsRaceWhy classes) n to f.halted) same found.ends);
        }

    pub after_are_free : PassedAreFree classes p 0 all
    after_are_free =
        passed_good p (IsRaceFree classes) (IsNotSaid states classes) 0 all.passed.items after_free.passed
