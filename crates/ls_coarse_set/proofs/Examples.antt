-- The law at a program with two threads.
use Rattle.std.proofs.lemmas.Option.{none-some}
use Rattle.ls_serial.proofs.Lists.{some_is}
use Rattle.std.proofs.Common.{◌≡◌, ◌∙◌, ℕ, zero, suc, [], ◌∷◌, Some, inl, inr, refl, sym, ap, subst, arith, ◌<◌}
use Rattle.std.proofs.Common.{◌^◌, length}
use Rattle.std.specs.Prelude.{slice_get, slice_index_or}
use Rattle.ls_checked.specs.CheckedProgram.{ThreadProgram}
use Rattle.ls_legal_laws.specs.Laws.{HasOwnNames}
use Rattle.ls_coarse_set.specs.Example.{ExampleIsLegal, example, first, name, second}
use Rattle.ls_coarse_set.proofs.Coarse.{checked_list_is_a_set}

-- the first letter of a thread's name
abbrev letter : ThreadProgram → ℕ
letter t = slice_index_or t.name 0 0

abbrev number : ℕ → ℕ
number zero = 115
number (suc zero) = 65
number (suc (suc k)) = 66

letter_is : (s : ℕ) (a : ThreadProgram) → slice_get example.threads s ≡ Some a → letter a ≡ number s
letter_is zero a e = ap letter (sym (some_is e))
letter_is (suc zero) a e = ap letter (sym (some_is e))
letter_is (suc (suc zero)) a e = ap letter (sym (some_is e))
letter_is (suc (suc (suc s))) a e = absurd (none-some _ e)

same_number : (s t : ℕ) (a b : ThreadProgram) → slice_get example.threads s ≡ Some a →
    slice_get example.threads t ≡ Some b →
    number s ≡ number t → s ≡ t
same_number zero zero a b p q e = refl
same_number zero (suc zero) a b p q e = absurd (omega (arith, e))
same_number zero (suc (suc t)) a b p q e = absurd (omega (arith, e))
same_number (suc zero) zero a b p q e = absurd (omega (arith, e))
same_number (suc zero) (suc zero) a b p q e = refl
same_number (suc zero) (suc (suc t)) a b p q e = absurd (omega (arith, e))
same_number (suc (suc s)) zero a b p q e = absurd (omega (arith, e))
same_number (suc (suc s)) (suc zero) a b p q e = absurd (omega (arith, e))
same_number (suc (suc zero)) (suc (suc zero)) a b p q e = refl
same_number (suc (suc zero)) (suc (suc (suc t))) a b p q e = absurd (none-some _ q)
same_number (suc (suc (suc s))) (suc (suc t)) a b p q e = absurd (none-some _ p)

counted : (s : ℕ) (a : ThreadProgram) → slice_get example.threads s ≡ Some a → length a.calls < 2 ^ 64
counted zero a e = subst (λ (z : ThreadProgram). length z.calls < 2 ^ 64) (some_is e) (omega arith)
counted (suc zero) a e = subst (λ (z : ThreadProgram). length z.calls < 2 ^ 64) (some_is e) (omega arith)
counted (suc (suc zero)) a e = subst (λ (z : ThreadProgram). length z.calls < 2 ^ 64) (some_is e) (omega arith)
counted (suc (suc (suc s))) a e = absurd (none-some _ e)

own : HasOwnNames example
own = record {
  apart = λ s t a b p q e. same_number s t a b p q
      (sym (letter_is s a p) ∙ ap (λ l. slice_index_or l 0 0) e ∙ letter_is t b q);
  counted = counted;
}

-- the law at the program
pub example_is_legal : ExampleIsLegal
example_is_legal = checked_list_is_a_set name _ _ [] (first ∷ second ∷ []) tt (
  ((refl, inl (refl, refl), refl, tt)),
  ((refl, inr (inl (refl, refl)), refl, (refl, inr (inr (refl, refl)), refl, tt)), tt),
) own
