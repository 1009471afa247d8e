-- Numbers with two numbers exchanged, and programs that are alike but for the numbers of threads.
use Rattle.std.proofs.Common.{◌≡◌, ◌≢◌, ℕ, ◌<◌, true, refl, sym, ap, ◌∙◌, subst, arith, length, map, List, [], ◌∷◌}
use Rattle.std.specs.Prelude.{nat_eq, slice_get}
use Rattle.std.specs.Cmp.{both_ways}
use Rattle.std.proofs.lemmas.Bool.Decides.{nat_tests}
use Rattle.std.proofs.lemmas.Grind.{common_steps}
use Rattle.ls_checked.specs.CheckedProgram.{Program}
use Rattle.ls_meaning.specs.Threads.{calls_in}
use Rattle.ls_exchanged.specs.Exchanged.{AreExchanged, exchanged}
use Rattle.ls_exchanged.specs.Laws.{ExchangedBack}

-- ---- numbers

zero_stays : (u v : ℕ) → 0 < u → 0 < v → exchanged u v 0 ≡ 0
zero_stays u v a b = grind (arith, nat_tests)

-- the first becomes the second
pub at_first : (u v t : ℕ) → t ≡ u → exchanged u v t ≡ v
at_first u v t e = grind (arith, nat_tests)

-- the second becomes the first
pub at_second : (u v t : ℕ) → t ≢ u → t ≡ v → exchanged u v t ≡ u
at_second u v t ne e = grind (arith, nat_tests)

-- each other number stays
pub elsewhere : (u v t : ℕ) → t ≢ u → t ≢ v → exchanged u v t ≡ t
elsewhere u v t m n = grind (arith, nat_tests)

-- exchanged twice, a number is itself
pub twice : (u v t : ℕ) → exchanged u v (exchanged u v t) ≡ t
twice u v t = grind (arith, nat_tests)

stays_within : (u v n t : ℕ) → u < n → v < n → t < n → exchanged u v t < n
stays_within u v n t a b c = grind (arith, nat_tests)

-- ---- programs

-- The second program has the threads of the first under other numbers.
pub record AreAlike (f : ℕ → ℕ) (p q : Program) : Type 0 where
  pub zero : f 0 ≡ 0
  pub twice : (t : ℕ) → f (f t) ≡ t
  pub within : (t : ℕ) → t < length p.threads → f t < length q.threads
  pub names : p.names ≡ q.names
  pub calls : (t : ℕ) → calls_in (slice_get q.threads (f t)) ≡ calls_in (slice_get p.threads t)

-- a program with two threads exchanged has the threads of the first under exchanged numbers
pub alike : (u v : ℕ) (p q : Program) → AreExchanged u v p q → AreAlike (exchanged u v) p q
alike u v p q e = record {
  zero = zero_stays u v e.first e.second;
  twice = twice u v;
  within = λ t lt. subst (λ n. exchanged u v t < n) e.many
      (stays_within u v (length p.threads) t e.within.0 e.within.1 lt);
  names = e.names;
  calls = e.calls;
}

-- the first program is the second with the same threads exchanged
pub back : ExchangedBack
back u v p q e = record {
  first = e.first;
  second = e.second;
  within = (subst (λ n. u < n) e.many e.within.0, subst (λ n. v < n) e.many e.within.1);
  many = sym e.many;
  names = sym e.names;
  calls = λ t. sym (e.calls (exchanged u v t)) ∙ ap (λ n. calls_in (slice_get q.threads n)) (twice u v t);
}

module _ (f : ℕ → ℕ) (own : (t : ℕ) → f (f t) ≡ t) where
  -- two numbers are one if their other numbers are
  pub apart : (m n : ℕ) → f m ≡ f n → m ≡ n
  apart m n e = sym (own m) ∙ ap f e ∙ own n

  -- a test of two numbers is that of their other numbers
  pub same_test : (m n : ℕ) → nat_eq (f m) (f n) ≡ nat_eq m n
  same_test m n = both_ways (nat_eq (f m) (f n)) (nat_eq m n)
      (λ e. let k : f m ≡ f n = grind (arith, common_steps, e) in
      subst (λ z. nat_eq m z ≡ true) (apart m n k) (grind (arith, common_steps)))
      (λ e. let k : m ≡ n = grind (arith, common_steps, e) in
      subst (λ z. nat_eq (f m) (f z) ≡ true) k (grind (arith, common_steps)))

-- ---- lists

-- what is itself after two changes, changed twice in a list, is itself
pub list_twice : {A : Type 0} (g : A → A) → ((x : A) → g (g x) ≡ x) → (xs : List A) → map g (map g xs) ≡ xs
list_twice g own [] = refl
list_twice g own (x ∷ xs) = ap (λ y. y ∷ map g (map g xs)) (own x) ∙ ap (λ l. x ∷ l) (list_twice g own xs)
