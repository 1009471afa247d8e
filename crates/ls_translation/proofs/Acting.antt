-- The acting steps, one after another.
use Rattle.std.proofs.Common.{◌≡◌, ℕ, ◌+◌, ◌<◌, ◌≤◌, List, ◌++◌, length, map, drop, get_or, refl, sym, ap, ◌∙◌, arith}
use Rattle.std.proofs.Common.{length-append}
use Rattle.std.proofs.lemmas.List.{append_assoc, drop_more}
use Rattle.ls_code.specs.Machine.{Machine, Entry, machine_step, machine_trace, traced}
use Rattle.ls_code.specs.declared.step.Did.{Did}
use Rattle.ls_code.specs.declared.step.Did.TheVariants as did
use Rattle.ls_translation.specs.Acting.{acting, if_acts}

acted_first : (t : ℕ) (d : Did) (rest : List Entry) →
    map (λ e. e.thread) (traced t d rest) ≡ if_acts t d ++ map (λ e. e.thread) rest
acted_first t (did.Acted action answer) rest = refl
acted_first t did.Silent rest = refl
acted_first t did.Waits rest = refl
acted_first t did.Idle rest = refl
acted_first t did.Stopped rest = refl

pub acting_more : (m m' : Machine) (ts : List ℕ) (i d : ℕ) (done done' whole : List ℕ) →
    i < length ts →
    m' ≡ (machine_step m (get_or ts i d)).machine →
    done' ≡ done ++ if_acts (get_or ts i d) (machine_step m (get_or ts i d)).did →
    done ++ acting m (drop i ts) ≡ whole →
    done' ++ acting m' (drop (i + 1) ts) ≡ whole
acting_more m m' ts i d done done' whole within is more h =
    let t : ℕ = get_or ts i d in
    ap (λ q. done' ++ acting q (drop (i + 1) ts)) is
    ∙ ap (λ l. l ++ acting (machine_step m t).machine (drop (i + 1) ts)) more
    ∙ append_assoc done (if_acts t (machine_step m t).did) (acting (machine_step m t).machine (drop (i + 1) ts))
    ∙ ap (λ l. done ++ l)
    (sym (acted_first t (machine_step m t).did (machine_trace (machine_step m t).machine (drop (i + 1) ts))))
    ∙ ap (λ l. done ++ acting m l) (sym (drop_more ts i d within))
    ∙ h

at_most_one : (t : ℕ) (d : Did) → length (if_acts t d) ≤ 1
at_most_one t (did.Acted action answer) = omega arith
at_most_one t did.Silent = omega arith
at_most_one t did.Waits = omega arith
at_most_one t did.Idle = omega arith
at_most_one t did.Stopped = omega arith

-- a step adds at most one acting step
pub one_more : (done done' : List ℕ) (t : ℕ) (d : Did) → done' ≡ done ++ if_acts t d → length done' ≤ length done + 1
one_more done done' t d e =
    let one = at_most_one t d in
    let len = length-append done (if_acts t d) in
    let same = ap length e in
    omega (arith, one, len, same)
