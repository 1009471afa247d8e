-- Bursts as runs of the machine.
use Rattle.std.proofs.Common.{◌≡◌, ℕ, zero, suc, true, List, [], ◌∷◌, map, Option, Some, refl}
use Rattle.std.proofs.Common.{ap, ◌∙◌}
use Rattle.ls_code.specs.Machine.{Machine, Entry, machine_step, machine_run, machine_trace, traced}
use Rattle.ls_code.specs.declared.step.Did.{Did}
use Rattle.ls_code.specs.declared.step.Did.TheVariants as did
use Rattle.ls_preservation.specs.Acting.{acts_or_stops, first_did, or_later}
use Rattle.ls_explore.specs.Bursts.{acted_or, burst}

-- steps of the thread, of which one acts
pub record IsBurst (m : Machine) (t : ℕ) (m' : Machine) : Type 0 where
  pub steps : List ℕ
  pub runs : machine_run m steps ≡ m'
  pub acts : map (λ (e : Entry). e.thread) (machine_trace m steps) ≡ t ∷ []

some_is : {A : Type 0} (x y : A) → Some x ≡ Some y → x ≡ y
some_is x y h = cc

by_did : (m m' : Machine) (t : ℕ) (rest : Option Machine) →
    (rest ≡ Some m' → IsBurst (machine_step m t).machine t m') →
    (d : Did) →
    (machine_step m t).did ≡ d →
    acted_or d (machine_step m t).machine rest ≡ Some m' →
    IsBurst m t m'
by_did m m' t rest more (did.Acted a x) e h = record {
  steps = t ∷ [];
  runs = some_is (machine_step m t).machine m' h;
  acts = ap (λ d. map (λ (e : Entry). e.thread) (traced t d [])) e;
}
by_did m m' t rest more did.Silent e h =
    let r : IsBurst (machine_step m t).machine t m' = more h in
    record {
      steps = t ∷ r.steps;
      runs = r.runs;
      acts = ap (λ d. map (λ (e : Entry). e.thread) (traced t d (machine_trace (machine_step m t).machine r.steps))) e ∙
          r.acts;
    }
by_did m m' t rest more did.Waits e h = absurd cc
by_did m m' t rest more did.Idle e h = absurd cc
by_did m m' t rest more did.Stopped e h = absurd cc

pub burst_is : (n : ℕ) (m m' : Machine) (t : ℕ) → burst n m t ≡ Some m' → IsBurst m t m'
unfolding burst
burst_is zero m m' t h = absurd cc
burst_is (suc n) m m' t h = by_did m m' t (burst n (machine_step m t).machine t)
    (burst_is n (machine_step m t).machine m' t) (machine_step m t).did refl h

Comes : Option Machine → Type 0
Comes o = (m' : Machine) × (o ≡ Some m')

by_first : (m : Machine) (later : Did) (rest : Option Machine) →
    (acts_or_stops true later ≡ true → Comes rest) →
    (d : Did) →
    acts_or_stops true (or_later d later) ≡ true →
    Comes (acted_or d m rest)
unfolding Comes
by_first m later rest more (did.Acted a x) h = (m, refl)
by_first m later rest more did.Silent h = more h
by_first m later rest more did.Waits h = absurd cc
by_first m later rest more did.Idle h = absurd cc
by_first m later rest more did.Stopped h = absurd cc

-- where the first step that isn't silent acts, there is a burst
pub burst_there : (n : ℕ) (m : Machine) (t : ℕ) →
    acts_or_stops true (first_did n m t) ≡ true →
    (m' : Machine) × (burst n m t ≡ Some m')
unfolding burst Comes
burst_there zero m t h = absurd cc
burst_there (suc n) m t h =
    by_first (machine_step m t).machine (first_did n (machine_step m t).machine t)
    (burst n (machine_step m t).machine t) (burst_there n (machine_step m t).machine t) (machine_step m t).did h
