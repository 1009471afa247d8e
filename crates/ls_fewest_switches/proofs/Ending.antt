-- Where no thread acts and one waits.
use Rattle.std.proofs.Common.{◌≡◌, ◌⊎◌, inl, inr, ℕ, ◌+◌, ◌++◌, ◌<◌, ◌≤◌, Bool, true, List, [], length}
use Rattle.std.proofs.Common.{refl, sym, ap, ◌∙◌, subst, arith}
use Rattle.std.proofs.lemmas.Bool.{cases_lt}
use Rattle.std.proofs.lemmas.List.{append-nil}
use Rattle.ls_checked.specs.CheckedTree.{File}
use Rattle.ls_checked.specs.CheckedProgram.{Program}
use Rattle.ls_meaning.specs.declared.step.Did.{Did}
use Rattle.ls_meaning.specs.declared.step.Did.TheVariants as did
use Rattle.ls_meaning.specs.Runs.{State, step}
use Rattle.ls_meaning.specs.Still.{IsActing, IsStill}
use Rattle.ls_events.specs.declared.event.Event.{Event}
use Rattle.ls_search_laws.specs.Stepping.{events_of}
use Rattle.ls_search_laws.proofs.Stepping.{acts_within, still_stays, traced_events}
use Rattle.ls_source.specs.Progress.{Progress, gone_on}
use Rattle.ls_search.specs.Runs.{progress_at}
use Rattle.ls_search.specs.Verdicts.{LeavesStuck}
use Rattle.ls_fewest_switches.specs.Levels.{IsWaiting}

-- what the step of a thread does
abbrev pub did_at : Progress → ℕ → Did
did_at r u = (step r.file r.program r.state u).did

pub no_events : (t : ℕ) (d : Did) → IsStill d → events_of t d ≡ []
no_events t (did.Acted action answer) still = absurd still
no_events t did.Waits still = refl
no_events t did.Idle still = refl

pub still_or_acts : (d : Did) → IsStill d ⊎ IsActing d
still_or_acts (did.Acted action answer) = inr tt
still_or_acts did.Waits = inl tt
still_or_acts did.Idle = inl tt

pub still_idle : (d : Did) → d ≡ did.Idle → IsStill d
still_idle d e = subst IsStill (sym e) tt

pub still_waits : (d : Did) → d ≡ did.Waits → IsStill d
still_waits d e = subst IsStill (sym e) tt

-- one thread more
pub still_more : (r : Progress) (threads : ℕ) → ((u : ℕ) → u < threads → IsStill (did_at r u)) →
    IsStill (did_at r threads) → (u : ℕ) → u < threads + 1 → IsStill (did_at r u)
still_more r threads h last u within = by_thread (cases_lt u threads)
  where
    by_thread : (u < threads) ⊎ (threads ≤ u) → IsStill (did_at r u)
    by_thread (inl less) = h u less
    by_thread (inr past) =
        let same : threads ≡ u = omega arith in subst (λ (v : ℕ). IsStill (did_at r v)) same last

-- all threads
pub is_waiting : (r : Progress) (threads : ℕ) → threads ≡ length r.program.threads →
    ((u : ℕ) → u < threads → IsStill (did_at r u)) → (u : ℕ) × (did_at r u ≡ did.Waits) → IsWaiting r
is_waiting r threads all h waits = record {
  over = λ u. by_thread u (still_or_acts (did_at r u));
  thread = waits.0;
  waits = waits.1;
}
  where
    by_thread : (u : ℕ) → IsStill (did_at r u) ⊎ IsActing (did_at r u) → IsStill (did_at r u)
    by_thread u (inl still) = still
    by_thread u (inr acts) =
        let within = acts_within r.file r.program r.state u acts in h u (omega (arith, within, all))

pub leaves_stuck : (file : File) (program : Program) (schedule : List ℕ) →
    IsWaiting (progress_at file program schedule) → LeavesStuck file program schedule
leaves_stuck file program schedule h = record { over = h.over; thread = h.thread; waits = h.waits }

gone_still : (r : Progress) (thread : ℕ) → IsStill (did_at r thread) → gone_on r thread ≡ r
gone_still r thread still =
    let d : Did = did_at r thread in
    let after : State = (step r.file r.program r.state thread).after in
    let events = traced_events thread d after [] ∙ append-nil (events_of thread d) ∙ no_events thread d still in
    ap (λ (h : List Event). record { file = r.file; program = r.program; state = after; history = r.history ++ h })
    events
    ∙ ap (λ (h : List Event). record { file = r.file; program = r.program; state = after; history = h })
    (append-nil r.history)
    ∙ ap (λ (z : State). record { file = r.file; program = r.program; state = z; history = r.history })
    (still_stays r.file r.program r.state thread still)

-- a step that doesn't act leaves the run as it is
pub stays_so : (q r : Progress) (thread : ℕ) → q ≡ r → IsStill (did_at r thread) → gone_on q thread ≡ r
stays_so q r thread same still =
    ap (λ (p : Progress). gone_on p thread) same ∙ gone_still r thread still

pub waits_more : (r : Progress) (thread : ℕ) (waits : Bool) (d : Did) → d ≡ did_at r thread →
    (waits ≡ true → (u : ℕ) × (did_at r u ≡ did.Waits)) → (waits ≡ true) ⊎ (d ≡ did.Waits) →
    (u : ℕ) × (did_at r u ≡ did.Waits)
waits_more r thread waits d is before (inl old) = before old
waits_more r thread waits d is before (inr now) = (thread, sym is ∙ now)
