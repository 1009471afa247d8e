-- The setup's steps, one by one.
use Rattle.std.proofs.Common.{◌≡◌, ℕ, ◌+◌, zero, suc, refl, ap, ◌∙◌, sym, arith, true, false}
use Rattle.ls_code.specs.Machine.{Machine, machine_state, machine_step}
use Rattle.ls_batch.specs.Samples.{settled, settling, goes_on}

pub settled_none : (m : Machine) → settled 0 m ≡ m
unfolding settled
settled_none m = refl

pub settled_stop : (n : ℕ) (m : Machine) → goes_on (machine_state m 0) ≡ false → settled n m ≡ m
unfolding settled
settled_stop zero m h = refl
settled_stop (suc n) m h = rw h refl

pub settled_on : (n : ℕ) (m : Machine) →
    goes_on (machine_state m 0) ≡ true →
    settled (suc n) m ≡ settled n (machine_step m 0).machine
unfolding settled
settled_on n m h = rw h refl

pub settled_more : (n k : ℕ) (m next : Machine) →
    n ≡ k + 1 →
    goes_on (machine_state m 0) ≡ true →
    next ≡ (machine_step m 0).machine →
    settled n m ≡ settled k next
settled_more n k m next e h is = ap (λ (i : ℕ). settled i m) (e ∙ omega arith) ∙
    (settled_on k m h ∙ ap (settled k) (sym is))

pub settling_none : (m : Machine) → settling 0 m ≡ 0
unfolding settling
settling_none m = refl

pub settling_stop : (n : ℕ) (m : Machine) → goes_on (machine_state m 0) ≡ false → settling n m ≡ 0
unfolding settling
settling_stop zero m h = refl
settling_stop (suc n) m h = rw h refl

pub settling_on : (n : ℕ) (m : Machine) →
    goes_on (machine_state m 0) ≡ true →
    settling (suc n) m ≡ suc (settling n (machine_step m 0).machine)
unfolding settling
settling_on n m h = rw h refl

-- one step more is taken
pub settling_more : (n k : ℕ) (m next : Machine) →
    n ≡ k + 1 →
    goes_on (machine_state m 0) ≡ true →
    next ≡ (machine_step m 0).machine
    → settling n m ≡ suc (settling k next)
settling_more n k m next e h is = ap (λ (i : ℕ). settling i m) (e ∙ omega arith) ∙
    (settling_on k m h ∙ ap (λ (z : Machine). suc (settling k z)) (sym is))
