-- A run of the machine, step by step.
use Rattle.std.proofs.Common.{◌≡◌, ℕ, zero, suc, ◌≤◌, true, false, List, [], ◌∷◌, ◌++◌, length, slice_get, refl, sym}
use Rattle.std.proofs.Common.{ap, ◌∙◌, arith, length-append}
use Rattle.std.proofs.lemmas.List.{append_assoc, append-nil}
use Rattle.ls_code.specs.Machine.{Machine, machine_step, machine_run, setup_ended}
use Rattle.ls_code.specs.declared.step.Did.{Did}
use Rattle.ls_code.specs.declared.step.Did.TheVariants as did
use Rattle.ls_preservation.specs.Translations.{until_acts, until_over, if_silent, unless}
use Rattle.ls_translation.specs.declared.fault.TranslationFault.{TranslationFault}
use Rattle.ls_translation.specs.declared.fault.TranslationFault.TheVariants.{Memory, BadCells, DoesNotFit}
use Rattle.ls_translation.specs.declared.fault.TranslationFault.TheVariants.{ResultTooLong}
use Rattle.ls_translation.specs.declared.machine_run.MachineRun.{MachineRun}
use Rattle.ls_translation.specs.Faults.{CutsShort}
use Rattle.ls_translation.specs.MachineRuns.{one_more, gone, is_loud}

abbrev run_of : List ℕ → Machine → MachineRun
run_of steps m = record { machine = m; steps = steps }

pub gone_step : (r : MachineRun) (t : ℕ) (ts : List ℕ) → gone (one_more r t) ts ≡ gone r (t ∷ ts)
gone_step r t ts = ap (λ l. run_of l (machine_run (machine_step r.machine t).machine ts))
    (append_assoc r.steps (t ∷ []) ts)

pub gone_none : (r : MachineRun) → gone r [] ≡ r
gone_none r = ap (λ l. run_of l r.machine) (append-nil r.steps)

run-append : (m : Machine) (ts us : List ℕ) → machine_run m (ts ++ us) ≡ machine_run (machine_run m ts) us
run-append m [] us = refl
run-append m (t ∷ ts) us = run-append (machine_step m t).machine ts us

pub gone_gone : (r : MachineRun) (xs ys : List ℕ) → gone (gone r xs) ys ≡ gone r (xs ++ ys)
gone_gone r xs ys =
    ap (λ l. run_of l (machine_run (machine_run r.machine xs) ys)) (append_assoc r.steps xs ys)
    ∙ ap (λ m. run_of (r.steps ++ (xs ++ ys)) m) (sym (run-append r.machine xs ys))

-- what cuts short is as short for more steps
pub cuts_longer : (xs ys : List ℕ) (e : TranslationFault) → length xs ≤ length ys → CutsShort xs e → CutsShort ys e
cuts_longer xs ys Memory more h = tt
cuts_longer xs ys BadCells more h = h
cuts_longer xs ys (DoesNotFit step) more h = h
cuts_longer xs ys ResultTooLong more h = omega arith

-- where a run goes on by these steps, and no further than the whole
pub cuts_whole : (r whole : MachineRun) (xs ys : List ℕ) (e : TranslationFault) →
    gone r (xs ++ ys) ≡ whole →
    CutsShort (r.steps ++ xs) e →
    CutsShort whole.steps e
cuts_whole r whole xs ys e h short =
    let all = ap (λ (q : MachineRun). length q.steps) h in
    cuts_longer (r.steps ++ xs) whole.steps e (omega (
      arith,
      all,
      length-append r.steps xs,
      length-append xs ys,
      length-append r.steps (xs ++ ys),
    )) short

-- where a thread's next step is silent
pub silent_goes : (r r' whole : MachineRun) (n k t : ℕ) →
    n ≡ suc k →
    r' ≡ one_more r t →
    did.Silent ≡ (machine_step r.machine t).did →
    gone r (until_acts n r.machine t) ≡ whole →
    gone r' (until_acts k r'.machine t) ≡ whole
silent_goes r r' whole n k t e is silent h =
    ap (λ q. gone q (until_acts k q.machine t)) is
    ∙ gone_step r t (until_acts k (machine_step r.machine t).machine t)
    ∙ ap (λ d. gone r (t ∷ if_silent d (until_acts k (machine_step r.machine t).machine t))) silent
    ∙ ap (λ m. gone r (until_acts m r.machine t)) (sym e)
    ∙ h

abbrev pub IsLoud : Did → Type 0
IsLoud d = (rest : List ℕ) → if_silent d rest ≡ []

pub loud_step : (d d' : Did) → d ≡ d' → is_loud d ≡ true → (rest : List ℕ) → if_silent d' rest ≡ []
loud_step did.Silent d' e h rest = absurd (cc)
loud_step (did.Acted action answer) d' e h rest = ap (λ x. if_silent x rest) (sym e)
loud_step did.Waits d' e h rest = ap (λ x. if_silent x rest) (sym e)
loud_step did.Idle d' e h rest = ap (λ x. if_silent x rest) (sym e)
loud_step did.Stopped d' e h rest = ap (λ x. if_silent x rest) (sym e)

pub silent_step : (d d' : Did) → d ≡ d' → is_loud d ≡ false → did.Silent ≡ d'
silent_step did.Silent d' e h = e
silent_step (did.Acted action answer) d' e h = absurd (cc)
silent_step did.Waits d' e h = absurd (cc)
silent_step did.Idle d' e h = absurd (cc)
silent_step did.Stopped d' e h = absurd (cc)

-- where it isn't
pub loud_ends : (r r' whole : MachineRun) (n k t : ℕ) →
    n ≡ suc k →
    r' ≡ one_more r t →
    IsLoud (machine_step r.machine t).did →
    gone r (until_acts n r.machine t) ≡ whole →
    r' ≡ whole
loud_ends r r' whole n k t e is loud h =
    is
    ∙ ap (λ l. run_of (r.steps ++ t ∷ l) (machine_run (machine_step r.machine t).machine l))
    (sym (loud (until_acts k (machine_step r.machine t).machine t)))
    ∙ ap (λ m. gone r (until_acts m r.machine t)) (sym e)
    ∙ h

pub last_ends : (r r' whole : MachineRun) (n t : ℕ) →
    n ≡ 0 →
    r' ≡ one_more r t →
    gone r (until_acts n r.machine t) ≡ whole →
    r' ≡ whole
last_ends r r' whole n t e is h = is ∙ ap (λ m. gone r (until_acts m r.machine t)) (sym e) ∙ h

-- there is always one more step
abbrev pub later_steps : ℕ → Machine → ℕ → List ℕ
later_steps zero m t = []
later_steps (suc n) m t = if_silent (machine_step m t).did (until_acts n (machine_step m t).machine t)

acts_first : (n : ℕ) (m : Machine) (t : ℕ) → until_acts n m t ≡ (t ∷ []) ++ later_steps n m t
acts_first zero m t = refl
acts_first (suc n) m t = refl

pub acts_short : (r whole : MachineRun) (n t : ℕ) (e : TranslationFault) →
    gone r (until_acts n r.machine t) ≡ whole →
    CutsShort (r.steps ++ t ∷ []) e →
    CutsShort whole.steps e
acts_short r whole n t e h short = cuts_whole r whole (t ∷ []) (later_steps n r.machine t) e
    (ap (gone r) (sym (acts_first n r.machine t)) ∙ h) short

-- the setup
over_first : (n k : ℕ) (m : Machine) →
    n ≡ suc k →
    setup_ended (slice_get m.threads 0) ≡ false →
    until_over n m ≡ 0 ∷ until_over k (machine_step m 0).machine
over_first n k m e unended =
    ap (λ i. until_over i m) e ∙ ap (λ b. unless b (0 ∷ until_over k (machine_step m 0).machine)) unended

pub over_goes : (r r' whole : MachineRun) (n k : ℕ) →
    n ≡ suc k →
    setup_ended (slice_get r.machine.threads 0) ≡ false →
    r' ≡ one_more r 0 →
    gone r (until_over n r.machine) ≡ whole →
    gone r' (until_over k r'.machine) ≡ whole
over_goes r r' whole n k e unended is h =
    ap (λ q. gone q (until_over k q.machine)) is
    ∙ gone_step r 0 (until_over k (machine_step r.machine 0).machine)
    ∙ ap (gone r) (sym (over_first n k r.machine e unended))
    ∙ h

pub over_ends : (r whole : MachineRun) (n k : ℕ) →
    n ≡ suc k →
    setup_ended (slice_get r.machine.threads 0) ≡ true →
    gone r (until_over n r.machine) ≡ whole →
    r ≡ whole
over_ends r whole n k e ended h =
    sym (gone_none r)
    ∙ ap (λ b. gone r (unless b (0 ∷ until_over k (machine_step r.machine 0).machine))) (sym ended)
    ∙ ap (λ m. gone r (until_over m r.machine)) (sym e)
    ∙ h

pub over_none : (r whole : MachineRun) (n : ℕ) → n ≡ 0 → gone r (until_over n r.machine) ≡ whole → r ≡ whole
over_none r whole n e h = sym (gone_none r) ∙ ap (λ m. gone r (until_over m r.machine)) (sym e) ∙ h

pub over_short : (r whole : MachineRun) (n k : ℕ) (e : TranslationFault) →
    n ≡ suc k →
    setup_ended (slice_get r.machine.threads 0) ≡ false →
    gone r (until_over n r.machine) ≡ whole →
    CutsShort (r.steps ++ 0 ∷ []) e →
    CutsShort whole.steps e
over_short r whole n k e is unended h short =
    cuts_whole r whole (0 ∷ []) (until_over k (machine_step r.machine 0).machine) e
    (ap (gone r) (sym (over_first n k r.machine is unended)) ∙ h) short
