-- The machine's steps for those of the source.
use Rattle.ls_events.specs.Limits.{most_steps}
use Rattle.std.proofs.Common.{◌≡◌, ℕ, ◌+◌, ◌<◌, ◌≤◌, Bool, true, false, List, [], ◌++◌, length, drop, get_or, refl, sym}
use Rattle.std.proofs.Common.{ap, ◌∙◌, subst}
use Rattle.std.specs.Prelude.{if◌then◌else◌}
use Rattle.std.proofs.lemmas.List.{append-nil, drop_all, drop_more}
use Rattle.ls_checked.specs.CheckedTree.{File}
use Rattle.ls_checked.specs.CheckedProgram.{Program}
use Rattle.ls_meaning.specs.Still.{has_acted}
use Rattle.ls_meaning.specs.Runs.{State, start, stepped, step}
use Rattle.ls_meaning.specs.declared.step.Did.{Did}
use Rattle.ls_meaning.specs.declared.step.Did.TheVariants as did
use Rattle.ls_source.specs.Progress.{Progress, begun, gone_on}
use Rattle.ls_code.specs.Machine.{Machine, machine_run}
use Rattle.ls_preservation.specs.Translations.{until_acts, setup_end, has_setup_ended, steps_all, steps_for, steps_from}
use Rattle.ls_translation.specs.declared.fault.TranslationFault.{TranslationFault}
use Rattle.ls_translation.specs.declared.machine_run.MachineRun.{MachineRun}
use Rattle.ls_translation.specs.Faults.{CutsShort}
use Rattle.ls_translation.specs.declared.fault.TranslationFault.TheVariants.{Memory, BadCells, DoesNotFit}
use Rattle.ls_translation.specs.declared.fault.TranslationFault.TheVariants.{ResultTooLong}
use Rattle.ls_translation.specs.MachineRuns.{begun as no_steps, gone, steps_after, steps_before}
use Rattle.ls_translation.specs.MachineRuns.{steps_of_acting, steps_of_one, steps_of_rest}
use Rattle.ls_translation.proofs.MachineRuns.{cuts_whole, gone_gone, gone_none}
use Rattle.ls_translation.proofs.SourceSteps.{after_step_is}

-- the steps of one that did this, which leads to a state
abbrev steps_by : Progress → ℕ → Machine → ℕ → Did → State → List ℕ
steps_by r n m t d s = steps_for r.file r.program n m t (stepped t d s)

by_did : (r : Progress) (n : ℕ) (m : Machine) (t : ℕ) (d : Did) → steps_after r n m t d ≡ steps_by r n m t d r.state
by_did r n m t (did.Acted action answer) = refl
by_did r n m t did.Waits = refl
by_did r n m t did.Idle = refl

-- the steps that are found after a step are those of the step
pub after_is : (r r' : Progress) (n : ℕ) (m : Machine) (t : ℕ) (d : Did) →
    d ≡ (step r.file r.program r.state t).did →
    r' ≡ gone_on r t →
    steps_after r' n m t d ≡ steps_of_one r n m t
after_is r r' n m t d is on =
    by_did r' n m t d
    ∙ ap (λ (p : Progress). steps_by p n m t d p.state) on
    ∙ ap (λ x. steps_by r n m t x (step r.file r.program r.state t).after) is

-- nothing for a step that changes nothing
pub stays : (r : Progress) (q : MachineRun) (n t : ℕ) (d : Did) →
    has_acted d ≡ false →
    q ≡ gone q (steps_after r n q.machine t d)
stays r q n t d still = sym (ap (λ b. gone q (if b then steps_of_acting r n q.machine t else [])) still ∙ gone_none q)

-- else up to the acting one, and the setup's to its end if its source has ended
pub acts : (r : Progress) (n : ℕ) (m : Machine) (t : ℕ) (d : Did) →
    has_acted d ≡ true →
    steps_after r n m t d ≡ steps_of_acting r n m t
acts r n m t d loud = ap (λ b. if b then steps_of_acting r n m t else []) loud

pub act_goes : (r : Progress) (q q1 q2 : MachineRun) (n t : ℕ) (b : Bool) →
    b ≡ has_setup_ended r.file r.program r.state →
    q1 ≡ gone q (until_acts n q.machine t) →
    q2 ≡ gone q1 (setup_end n q1.machine b) →
    q2 ≡ gone q (steps_of_acting r n q.machine t)
act_goes r q q1 q2 n t b ended h1 h2 =
    h2
    ∙ ap (λ y. gone q1 (setup_end n q1.machine y)) ended
    ∙ ap (λ p. gone p (steps_before r n p.machine)) h1
    ∙ gone_gone q (until_acts n q.machine t) (steps_before r n (machine_run q.machine (until_acts n q.machine t)))

-- cut short up to the acting step, and after it
pub act_short : (r : Progress) (q : MachineRun) (n t : ℕ) (e : TranslationFault) →
    CutsShort (q.steps ++ until_acts n q.machine t) e →
    CutsShort (q.steps ++ steps_of_acting r n q.machine t) e
act_short r q n t e short =
    cuts_whole q (gone q (steps_of_acting r n q.machine t)) (until_acts n q.machine t)
    (steps_before r n (machine_run q.machine (until_acts n q.machine t))) e refl short

pub finish_short : (r : Progress) (q q1 : MachineRun) (n t : ℕ) (b : Bool) (e : TranslationFault) →
    b ≡ has_setup_ended r.file r.program r.state →
    q1 ≡ gone q (until_acts n q.machine t) →
    CutsShort (q1.steps ++ setup_end n q1.machine b) e →
    CutsShort (q.steps ++ steps_of_acting r n q.machine t) e
finish_short r q q1 n t b e ended h1 short =
    cuts_whole q1 (gone q (steps_of_acting r n q.machine t)) (setup_end n q1.machine b) [] e
    (ap (gone q1) (append-nil (setup_end n q1.machine b)) ∙ act_goes r q q1 (gone q1 (setup_end n q1.machine b)) n t b
    ended h1 refl) short

-- a refusal that cuts short and isn't that there are too many steps is that memory ran out
pub only_memory : (steps : List ℕ) (e : TranslationFault) → CutsShort steps e → (e ≡ ResultTooLong → ⊥) → e ≡ Memory
only_memory steps Memory short other = refl
only_memory steps BadCells short other = absurd short
only_memory steps (DoesNotFit step) short other = absurd short
only_memory steps ResultTooLong short other = absurd (other refl)

-- the rest of a schedule
pub rest_first : (r : Progress) (n : ℕ) (m : Machine) (ts : List ℕ) (i d : ℕ) →
    i < length ts →
    steps_of_rest r n m (drop i ts) ≡ steps_of_one r n m (get_or ts i d) ++
    steps_of_rest (gone_on r (get_or ts i d)) n (machine_run m (steps_of_one r n m (get_or ts i d)))
    (drop (i + 1) ts)
rest_first r n m ts i d within =
    let t : ℕ = get_or ts i d in
    ap (λ l. steps_of_rest r n m l) (drop_more ts i d within)
    ∙ ap (λ s. steps_of_one r n m t ++ steps_from r.file r.program n s (machine_run m (steps_of_one r n m t))
    (drop (i + 1) ts)) (after_step_is r.file r.program r.state t)

pub follows : (r r' : Progress) (q q' whole : MachineRun) (n : ℕ) (ts : List ℕ) (i d : ℕ) →
    i < length ts →
    r' ≡ gone_on r (get_or ts i d) →
    q' ≡ gone q (steps_of_one r n q.machine (get_or ts i d)) →
    gone q (steps_of_rest r n q.machine (drop i ts)) ≡ whole →
    gone q' (steps_of_rest r' n q'.machine (drop (i + 1) ts)) ≡ whole
follows r r' q q' whole n ts i d within is more h =
    let t : ℕ = get_or ts i d in
    let one : List ℕ = steps_of_one r n q.machine t in
    ap (λ p. gone q' (steps_of_rest p n q'.machine (drop (i + 1) ts))) is
    ∙ ap (λ p. gone p (steps_of_rest (gone_on r t) n p.machine (drop (i + 1) ts))) more
    ∙ gone_gone q one (steps_of_rest (gone_on r t) n (machine_run q.machine one) (drop (i + 1) ts))
    ∙ ap (gone q) (sym (rest_first r n q.machine ts i d within))
    ∙ h

pub follow_short : (r : Progress) (q whole : MachineRun) (n : ℕ) (ts : List ℕ) (i d : ℕ) (e : TranslationFault) →
    i < length ts →
    gone q (steps_of_rest r n q.machine (drop i ts)) ≡ whole →
    CutsShort (q.steps ++ steps_of_one r n q.machine (get_or ts i d)) e →
    CutsShort whole.steps e
follow_short r q whole n ts i d e within h short =
    let t : ℕ = get_or ts i d in
    let one : List ℕ = steps_of_one r n q.machine t in
    cuts_whole q whole one (steps_of_rest (gone_on r t) n (machine_run q.machine one) (drop (i + 1) ts)) e
    (ap (gone q) (sym (rest_first r n q.machine ts i d within)) ∙ h) short

-- the start, with the setup's end where its source has ended
pub begins : (file : File) (program : Program) (r : Progress) (q q' : MachineRun) (n : ℕ) (m : Machine) (ts : List ℕ) →
    r ≡ begun file program →
    q ≡ no_steps m →
    q' ≡ gone q (steps_before r n q.machine) →
    gone q' (steps_of_rest r n q'.machine ts) ≡ gone (no_steps m) (steps_all file program n (start program) m ts)
begins file program r q q' n m ts is first h =
    let end : List ℕ = steps_before (begun file program) n m in
    ap (λ p. gone q' (steps_of_rest p n q'.machine ts)) is
    ∙ ap (λ p. gone p (steps_of_rest (begun file program) n p.machine ts))
    (h ∙ ap (λ p. gone p (steps_before r n p.machine)) first ∙ ap (λ p. gone (no_steps m) (steps_before p n m)) is)
    ∙ gone_gone (no_steps m) end (steps_of_rest (begun file program) n (machine_run m end) ts)

-- The machine follows a source run whose rest of a schedule is this: its steps and those of the rest are the whole's.
-- If there are too many steps, there are in the whole.
pub record IsFollowed (r : Progress) (q whole : MachineRun) (n : ℕ) (ts : List ℕ) (is_long : Bool) : Type 0 where
  pub goes : is_long ≡ false → gone q (steps_of_rest r n q.machine ts) ≡ whole
  pub long : is_long ≡ true → most_steps < length whole.steps

pub is_begun : (file : File) (program : Program) (r : Progress) (q q' : MachineRun) (n : ℕ) (m : Machine) (b : Bool)
    (ts : List ℕ) →
    r ≡ begun file program →
    q ≡ no_steps m →
    (b ≡ false → q' ≡ gone q (steps_before r n q.machine)) →
    (b ≡ true → most_steps < length (q.steps ++ steps_before r n q.machine)) →
    IsFollowed r q' (gone (no_steps m) (steps_all file program n (start program) m ts)) n ts b
is_begun file program r q q' n m b ts is first goes long =
    let whole : MachineRun = gone (no_steps m) (steps_all file program n (start program) m ts) in
    let q1 : MachineRun = gone q (steps_before r n q.machine) in
    let e : gone q1 (steps_of_rest r n q1.machine ts) ≡ whole = begins file program r q q1 n m ts is first refl in
    record {
      goes = λ h. begins file program r q q' n m ts is first (goes h);
      long = λ h. cuts_whole q whole (steps_before r n q.machine) (steps_of_rest r n q1.machine ts) ResultTooLong
          (sym (gone_gone q (steps_before r n q.machine) (steps_of_rest r n q1.machine ts)) ∙ e) (long h);
    }

pub is_followed : (r r' : Progress) (q q' whole : MachineRun) (n : ℕ) (ts : List ℕ) (i x : ℕ) (d : Did) (was b : Bool) →
    i < length ts →
    d ≡ (step r.file r.program r.state (get_or ts i x)).did →
    r' ≡ gone_on r (get_or ts i x) →
    IsFollowed r q whole n (drop i ts) was →
    (b ≡ false → was ≡ false) →
    (b ≡ false → q' ≡ gone q (steps_after r' n q.machine (get_or ts i x) d)) →
    (b ≡ true → was ≡ false → most_steps < length (q.steps ++ steps_after r' n q.machine (get_or ts i x) d)) →
    IsFollowed r' q' whole n (drop (i + 1) ts) b
is_followed r r' q q' whole n ts i x d was b within did on h short goes long =
    let t : ℕ = get_or ts i x in
    let one : steps_after r' n q.machine t d ≡ steps_of_one r n q.machine t = after_is r r' n q.machine t d did on in
    record {
      goes = λ e. follows r r' q q' whole n ts i x within on (goes e ∙ ap (gone q) one) (h.goes (short e));
      long = λ e. longer r q whole n ts i x was within h (λ still.
          subst (λ l. most_steps < length (q.steps ++ l)) one (long e still));
    }
  where
    longer : (r : Progress) (q whole : MachineRun) (n : ℕ) (ts : List ℕ) (i x : ℕ) (was : Bool) →
        i < length ts →
        IsFollowed r q whole n (drop i ts) was →
        (was ≡ false → most_steps < length (q.steps ++ steps_of_one r n q.machine (get_or ts i x))) →
        most_steps < length whole.steps
    longer r q whole n ts i x false within h more = follow_short r q whole n ts i x ResultTooLong within (h.goes refl)
        (more refl)
    longer r q whole n ts i x true within h more = h.long refl

-- at the end of the schedule the steps are the whole's
pub whole_steps : (r : Progress) (q : MachineRun) (n : ℕ) (m : Machine) (ts steps : List ℕ) (i : ℕ) (b : Bool) →
    IsFollowed r q (gone (no_steps m) steps) n (drop i ts) b →
    b ≡ false →
    length ts ≤ i →
    q.steps ≡ steps
whole_steps r q n m ts steps i b h short past =
    let none : gone q (steps_of_rest r n q.machine (drop i ts)) ≡ q = ap (λ l. gone q (steps_of_rest r n q.machine l))
    (drop_all i ts past) ∙ gone_none q in
    ap (λ (p : MachineRun). p.steps) (sym none ∙ h.goes short)
