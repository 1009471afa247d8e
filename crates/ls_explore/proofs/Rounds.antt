-- A thread that comes back to where it stood, in silence, never acts.
use Rattle.std.proofs.Common.{◌≡◌, ◌⊎◌, inl, inr, ℕ, zero, suc, ◌+◌, ◌-◌, ◌<◌, ◌≤◌, None, refl, sym, ap, ◌∙◌}
use Rattle.std.proofs.Common.{arith, subst}
use Rattle.std.proofs.lemmas.Bool.{cases_lt}
use Rattle.ls_code.specs.Machine.{Machine, machine_step}
use Rattle.ls_code.specs.declared.step.Did.TheVariants as did
use Rattle.ls_preservation.specs.Acting.{first_did, or_later}
use Rattle.ls_explore.specs.Bursts.{IsSilentTo, NeverActs, acted_or, burst}

-- so many steps of the thread are silent
abbrev StaysSilent : ℕ → Machine → ℕ → Type 0
StaysSilent n m t = (b : Machine) × IsSilentTo n m t b

-- then it has neither a burst nor anything else in them
silent_burst : (n : ℕ) (m b : Machine) (t : ℕ) → IsSilentTo n m t b → burst n m t ≡ None
unfolding burst
silent_burst zero m b t h = refl
silent_burst (suc n) m b t h =
    ap (λ d. acted_or d (machine_step m t).machine (burst n (machine_step m t).machine t)) h.0
    ∙ silent_burst n (machine_step m t).machine b t h.1

silent_first : (n : ℕ) (m b : Machine) (t : ℕ) → IsSilentTo n m t b → first_did n m t ≡ did.Silent
silent_first zero m b t h = refl
silent_first (suc n) m b t h =
    ap (λ d. or_later d (first_did n (machine_step m t).machine t)) h.0 ∙
    silent_first n (machine_step m t).machine b t h.1

-- fewer of the steps
fewer : (n k : ℕ) (m a : Machine) (t : ℕ) → IsSilentTo k m t a → n ≤ k → StaysSilent n m t
fewer zero k m a t h le = (m, refl)
fewer (suc n) zero m a t h le = absurd (omega arith)
fewer (suc n) (suc k) m a t h le =
    let r = fewer n k (machine_step m t).machine a t h.1 (omega arith) in
    (r.0, (h.0, r.1))

-- more steps after them
joined : (k n : ℕ) (m a : Machine) (t : ℕ) → IsSilentTo k m t a → StaysSilent n a t → StaysSilent (k + n) m t
joined zero n m a t h r =
    let e : n ≡ 0 + n = omega arith in
    subst (λ j. StaysSilent j m t) e (subst (λ z. StaysSilent n z t) (sym h) r)
joined (suc k) n m a t h r =
    let e : suc (k + n) ≡ suc k + n = omega arith in
    let s = joined k n (machine_step m t).machine a t h.1 r in
    subst (λ j. StaysSilent j m t) e (s.0, (h.0, s.1))

-- round and round, so many steps with so many rounds at the most
around : (d rounds n : ℕ) (a : Machine) (t : ℕ) → IsSilentTo (suc d) a t a → n < rounds → StaysSilent n a t
around d zero n a t h lt = absurd (omega arith)
around d (suc rounds) n a t h lt = by_size (cases_lt n (suc d)) (λ j less. around d rounds j a t h less) lt
  where
    by_size : (n < suc d) ⊎ (suc d ≤ n) →
        ((j : ℕ) → j < rounds → StaysSilent j a t) →
        n < suc rounds →
        StaysSilent n a t
    by_size (inl less) rest lt = fewer n (suc d) a a t h (omega arith)
    by_size (inr more) rest lt =
        let e : suc d + (n - suc d) ≡ n = omega arith in
        subst (λ j. StaysSilent j a t) e (joined (suc d) (n - suc d) a a t h (rest (n - suc d) (omega arith)))

stays_silent : (m a : Machine) (t k d : ℕ) → IsSilentTo k m t a → IsSilentTo (suc d) a t a → (n : ℕ) → StaysSilent n m t
stays_silent m a t k d before again n = by_size (cases_lt n k)
  where
    by_size : (n < k) ⊎ (k ≤ n) → StaysSilent n m t
    by_size (inl less) = fewer n k m a t before (omega arith)
    by_size (inr more) =
        let e : k + (n - k) ≡ n = omega arith in
        subst (λ j. StaysSilent j m t) e (joined k (n - k) m a t before
        (around d (suc (n - k)) (n - k) a t again (omega arith)))

pub never_acts : NeverActs
never_acts m a t k d before again n =
    let s = stays_silent m a t k d before again n in
    (silent_burst n m s.0 t s.1, silent_first n m s.0 t s.1)
