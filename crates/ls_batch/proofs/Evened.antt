-- A chance of 1 in 1.
use Rattle.std.proofs.Common.{◌≡◌, ◌∙◌, ℕ, zero, suc, ◌+◌, ◌/◌, ◌%◌, ◌||◌, ◌==◌, List, ◌∷◌, Bool, true, false, refl, ap}
use Rattle.std.proofs.Common.{arith}
use Rattle.std.specs.Prelude.{if◌then◌else◌}
use Rattle.rand_xoshiro.specs.SplitMix64.{mix_u64}
use Rattle.ls_batch.specs.Samples.{draws, next_thread}
use Rattle.ls_batch.specs.Even.{OneIsEven, even_draws}

or_true : (b : Bool) → (b || true) ≡ true
or_true true = refl
or_true false = refl

one_next : (threads last word : ℕ) → next_thread threads 1 last word ≡ 1 + word % threads
one_next threads last word =
    let none : word % 1 ≡ 0 = omega arith in
    let whole : word / 1 ≡ word = omega arith in
    ap (λ (b : Bool). if b then 1 + word / 1 % threads else last)
    (ap (λ (r : ℕ). last == 0 || r == 0) none ∙ or_true (last == 0))
    ∙ ap (λ (q : ℕ). 1 + q % threads) whole

pub one_is_even : OneIsEven
unfolding draws even_draws
one_is_even threads last zero x = refl
one_is_even threads last (suc n) x =
    let next = next_thread threads 1 last (mix_u64 x).0 in
    ap (λ (ts : List ℕ). next ∷ ts) (one_is_even threads next n (mix_u64 x).1) ∙
    ap (λ (t : ℕ). t ∷ even_draws threads n (mix_u64 x).1) (one_next threads last (mix_u64 x).0)
