-- What holds of the start and is kept by steps holds of each schedule.
use Rattle.std.proofs.Common.{◌≡◌, ◌⊎◌, inl, inr, ℕ, zero, suc, ◌+◌, ◌<◌, ◌≤◌, true, false, List, [], ◌∷◌}
use Rattle.std.proofs.Common.{◌++◌, replicate, refl, sym, ap, ◌∙◌, subst, arith, append_assoc, append-nil}
use Rattle.std.specs.Prelude.{if◌then◌else◌, nat_eq}
use Rattle.std.proofs.lemmas.Bool.{cases_lt}
use Rattle.std.proofs.lemmas.Bool.Decides.{nat_tests}
use Rattle.std.proofs.lemmas.List.{replicate_more}
use Rattle.ls_events.specs.declared.value.Value.{Value}
use Rattle.ls_events.specs.declared.event.Event.{Event}
use Rattle.ls_checked.specs.CheckedTree.{File}
use Rattle.ls_checked.specs.CheckedProgram.{Program}
use Rattle.ls_meaning.specs.declared.step.Did.{Did}
use Rattle.ls_meaning.specs.declared.step.Did.TheVariants as did
use Rattle.ls_meaning.specs.Steps.{Entry, Stepped, run, trace, traced}
use Rattle.ls_meaning.specs.Threads.{Next, Goes, Ended, Trapped, next}
use Rattle.ls_meaning.specs.Runs.{State, answers_of, has_ended, history_of, idle, source_history, source_run}
use Rattle.ls_meaning.specs.Runs.{source_step}
use Rattle.ls_meaning.specs.Runs.{start, step, step_of}
use Rattle.ls_meaning.specs.Still.{IsActing, IsOver, IsStill}
use Rattle.ls_search_laws.specs.Stepping.{IsBefore, SetsUp, events_of}
use Rattle.ls_search_laws.proofs.Stepping.{one_more, step_after, still_stays, traced_events}

module _ (file : File) (program : Program) where
  abbrev sd : State → ℕ → Stepped State (Entry Value)
  sd = source_step file program

  -- what is kept by steps that act
  abbrev pub IsKept : (State → List Event → Type 0) → Type 0
  IsKept Holds = (s : State) (h : List Event) (t : ℕ) → Holds s h → IsActing (step file program s t).did →
      Holds (step file program s t).after (h ++ events_of t (step file program s t).did)

  module _ (Holds : State → List Event → Type 0) (kept : IsKept Holds) where
    by_did : (t : ℕ) (d : Did) (s s' : State) (h : List Event) →
        (IsActing d → Holds s' (h ++ events_of t d)) →
        (IsStill d → s' ≡ s) →
        Holds s h →
        Holds s' (h ++ events_of t d)
    by_did t (did.Acted a x) s s' h acts stays holds = acts tt
    by_did t did.Waits s s' h acts stays holds =
        subst (λ z. Holds z (h ++ [])) (sym (stays tt)) (subst (Holds s) (sym (append-nil h)) holds)
    by_did t did.Idle s s' h acts stays holds =
        subst (λ z. Holds z (h ++ [])) (sym (stays tt)) (subst (Holds s) (sym (append-nil h)) holds)

    one : (s : State) (h : List Event) (t : ℕ) →
        Holds s h →
        Holds (step file program s t).after (h ++ events_of t (step file program s t).did)
    one s h t holds =
        by_did t (step file program s t).did s (step file program s t).after h (kept s h t holds)
        (still_stays file program s t) holds

    from : (ts : List ℕ) (s : State) (h : List Event) →
        Holds s h →
        Holds (run sd s ts) (h ++ history_of (trace sd s ts))
    from [] s h holds = subst (Holds s) (sym (append-nil h)) holds
    from (t ∷ ts) s h holds =
        subst (λ x. Holds (run sd x ts) (h ++ history_of (traced (sd s t) (trace sd x ts))))
        (sym (step_after file program s t))
        (subst (Holds (run sd (step file program s t).after ts))
        (append_assoc h (events_of t (step file program s t).did)
        (history_of (trace sd (step file program s t).after ts))
        ∙ ap (λ l. h ++ l)
        (sym (traced_events t (step file program s t).did (step file program s t).after
        (trace sd (step file program s t).after ts))))
        (from ts (step file program s t).after (h ++ events_of t (step file program s t).did) (one s h t holds)))

    pub holds_of_all : Holds (start program) [] →
        (schedule : List ℕ) →
        Holds (source_run file program schedule) (source_history file program schedule)
    holds_of_all holds schedule = from schedule (start program) [] holds

  -- ---- the setup

  goes_of : (s : State) (n : Next) → IsActing (step_of file s 0 n).did → has_ended n ≡ false
  goes_of s (Goes a sort) acts = refl
  goes_of s Ended acts = absurd acts
  goes_of s Trapped acts = absurd acts

  -- where the setup acts, no other thread does
  pub setup_goes : (s : State) →
      IsActing (step file program s 0).did →
      has_ended (next file program 0 (answers_of s 0)) ≡ false
  setup_goes s acts = goes_of s (next file program 0 (answers_of s 0)) acts

  pub not_started : (s : State) (t : ℕ) →
      has_ended (next file program 0 (answers_of s 0)) ≡ false →
      step file program s (suc t) ≡ idle s
  not_started s t e =
      let z : nat_eq (suc t) 0 ≡ false = grind (arith, nat_tests) in
      ap (λ b. (if (if b then true else has_ended (next file program 0 (answers_of s 0))) then
      step_of file s (suc t) (next file program (suc t) (answers_of s (suc t))) else idle s)) z
      ∙ ap (λ b. (if b then step_of file s (suc t) (next file program (suc t) (answers_of s (suc t))) else idle s)) e

  module _ (k : ℕ) (up : SetsUp file program k) where
    abbrev of_setup : ℕ → State
    of_setup j = source_run file program (replicate j 0)

    abbrev told : ℕ → List Event
    told j = source_history file program (replicate j 0)

    record IsEarly (s : State) (h : List Event) : Type 0 where
      pub count : ℕ
      pub fewer : count < k
      pub state : s ≡ of_setup count
      pub history : h ≡ told count

    module _ (Holds : State → List Event → Type 0) (kept : IsKept Holds) (root : Holds (of_setup k) (told k)) where
      abbrev Or : State → List Event → Type 0
      Or s h = Holds s h ⊎ IsEarly s h

      more_state : (j : ℕ) → (step file program (of_setup j) 0).after ≡ of_setup (j + 1)
      more_state j =
          sym (one_more file program (replicate j 0) 0).state ∙ ap (source_run file program) (replicate_more j 0)

      more_history : (j : ℕ) → told j ++ events_of 0 (step file program (of_setup j) 0).did ≡ told (j + 1)
      more_history j =
          sym (one_more file program (replicate j 0) 0).history ∙ ap (source_history file program) (replicate_more j 0)

      next_of_setup : (j : ℕ) → j < k → (j + 1 < k) ⊎ (k ≤ j + 1) → Or (of_setup (j + 1)) (told (j + 1))
      next_of_setup j lt (inl less) = inr (record { count = j + 1; fewer = less; state = refl; history = refl })
      next_of_setup j lt (inr more) =
          let e : k ≡ j + 1 = omega arith in
          inl (subst (λ n. Holds (of_setup n) (told n)) e root)

      early_kept : (j : ℕ) (t : ℕ) →
          j < k →
          IsActing (step file program (of_setup j) t).did →
          Or (step file program (of_setup j) t).after (told j ++ events_of t (step file program (of_setup j) t).did)
      early_kept j zero lt acts =
          subst (λ s. Or s (told j ++ events_of 0 (step file program (of_setup j) 0).did)) (sym (more_state j))
          (subst (Or (of_setup (j + 1))) (sym (more_history j)) (next_of_setup j lt (cases_lt (j + 1) k)))
      early_kept j (suc t) lt acts =
          absurd (subst (λ p. IsActing p.did)
          (not_started (of_setup j) t (setup_goes (of_setup j) (up j lt))) acts)

      or_kept : IsKept Or
      or_kept s h t (inl holds) acts = inl (kept s h t holds acts)
      or_kept s h t (inr early) acts =
          subst (λ z. Or (step file program z t).after (h ++ events_of t (step file program z t).did)) (sym early.state)
          (subst (λ l. Or (step file program (of_setup early.count) t).after
          (l ++ events_of t (step file program (of_setup early.count) t).did)) (sym early.history)
          (early_kept early.count t early.fewer
          (subst (λ z. IsActing (step file program z t).did) early.state acts)))

      first_of_all : (0 < k) ⊎ (k ≤ 0) → Or (start program) []
      first_of_all (inl less) = inr (record { count = 0; fewer = less; state = refl; history = refl })
      first_of_all (inr none) =
          let e : k ≡ 0 = omega arith in
          inl (subst (λ n. Holds (of_setup n) (told n)) e root)

      pub holds_after_setup : (schedule : List ℕ) →
          Holds (source_run file program schedule) (source_history file program schedule)
          ⊎ IsBefore file program k schedule
      holds_after_setup schedule =
          by_or (holds_of_all Or or_kept (first_of_all (cases_lt 0 k)) schedule)
        where
          by_or : Or (source_run file program schedule) (source_history file program schedule) →
              Holds (source_run file program schedule) (source_history file program schedule)
              ⊎ IsBefore file program k schedule
          by_or (inl holds) = inl holds
          by_or (inr early) = inr (record {
            count = early.count;
            fewer = early.fewer;
            state = early.state;
            history = early.history;
          })

    -- a schedule after which no thread acts is not before the setup's end
    still_not : (d : Did) → IsActing d → IsStill d → ⊥
    still_not (did.Acted a x) acts still = still
    still_not did.Waits acts still = acts
    still_not did.Idle acts still = acts

    pub not_over : (schedule : List ℕ) →
        IsBefore file program k schedule →
        IsOver file program (source_run file program schedule) →
        ⊥
    not_over schedule b over =
        still_not (step file program (of_setup b.count) 0).did (up b.count b.fewer)
        (subst (λ s. IsStill (step file program s 0).did) b.state (over 0))

-- the history of fewer steps comes first in that of more
pub fewer_first : (file : File) (program : Program) (j n : ℕ) →
    (rest : List Event) × (source_history file program (replicate j 0) ++ rest ≡ source_history file program
    (replicate (j + n) 0))
fewer_first file program j zero =
    let e : j ≡ j + 0 = omega arith in (
      [],
      append-nil (source_history file program (replicate j 0)) ∙
          ap (λ i. source_history file program (replicate i 0)) e,
    )
fewer_first file program j (suc n) =
    let b = fewer_first file program j n in
    let e : j + n + 1 ≡ j + suc n = omega arith in
    let d : Did = (step file program (source_run file program (replicate (j + n) 0)) 0).did in (
      b.0 ++ events_of 0 d,
      sym (append_assoc (source_history file program (replicate j 0)) b.0 (events_of 0 d))
          ∙ ap (λ h. h ++ events_of 0 d) b.1
          ∙ sym (one_more file program (replicate (j + n) 0) 0).history
          ∙ ap (source_history file program) (replicate_more (j + n) 0)
          ∙ ap (λ i. source_history file program (replicate i 0)) e,
    )
