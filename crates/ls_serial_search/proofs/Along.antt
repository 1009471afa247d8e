-- A run along a schedule, and the calls of a thread along its steps.
use Rattle.std.proofs.Common.{◌≡◌, ◌⊎◌, inl, inr, ℕ, zero, suc, ◌+◌, ◌<◌, ◌≤◌, List, [], ◌∷◌, ◌++◌}
use Rattle.std.proofs.Common.{length, get_or, replicate, take, refl, sym, ap, ◌∙◌, subst, arith, append-nil}
use Rattle.std.proofs.lemmas.Bool.{cases_lt}
use Rattle.std.proofs.lemmas.List.{take_more}
use Rattle.ls_events.specs.declared.event.Event.{Event}
use Rattle.ls_checked.specs.CheckedTree.{File}
use Rattle.ls_checked.specs.CheckedProgram.{Program}
use Rattle.ls_meaning.specs.declared.step.Did.{Did}
use Rattle.ls_meaning.specs.Runs.{State, history_of, source_history, source_run, step, stepped}
use Rattle.ls_meaning.specs.Steps.{traced}
use Rattle.ls_serial.specs.Serial.{IsSerial}
use Rattle.ls_source.specs.declared.playing.Playing.{Playing}
use Rattle.ls_source.specs.Progress.{Progress, gone_on}
use Rattle.ls_source.specs.Stands.{StandsFor}
use Rattle.ls_serial_search.specs.Following.{IsBegun, called, events_of}
use Rattle.ls_serial_search.specs.Happened.{ActsFor, EndsIn, IsLast}
use Rattle.ls_serial_search.specs.Orders.{progress_at}
use Rattle.ls_serial_search.proofs.SoFar.{serial_more}
use Rattle.ls_serial_search.proofs.Stepping.{history_more, state_more, steps_more, traced_events}

-- ---- runs

abbrev with_parts : File → Program → State → List Event → Progress
with_parts file program s h = record { file = file; program = program; state = s; history = h }

-- a step more
pub step_at : (file : File) (program : Program) (schedule : List ℕ) (t : ℕ) →
    gone_on (progress_at file program schedule) t ≡ progress_at file program (schedule ++ t ∷ [])
step_at file program schedule t =
    let s = source_run file program schedule in
    let d = (step file program s t).did in
    let s' = (step file program s t).after in
    let events : history_of (traced (stepped t d s') []) ≡ events_of t d = traced_events t d s' [] ∙
    append-nil (events_of t d) in
    ap (λ h. with_parts file program s' (source_history file program schedule ++ h)) events
    ∙ ap (λ h. with_parts file program s' h) (sym (history_more file program schedule t))
    ∙ ap (λ z. with_parts file program z (source_history file program (schedule ++ t ∷ [])))
    (sym (state_more file program schedule t))

-- ---- runs that stand for it

module _ (file : File) (program : Program) where
  abbrev pub StandsAt : Playing → List ℕ → Type 0
  StandsAt r schedule = StandsFor r (progress_at file program schedule)

  abbrev pub GoesOn : Playing → Playing → ℕ → Type 0
  GoesOn r r' t = (p : Progress) → StandsFor r p → StandsFor r' (gone_on p t)

  abbrev pub Does : Playing → ℕ → Did → Type 0
  Does r t d = (p : Progress) → StandsFor r p → d ≡ (step p.file p.program p.state t).did

  one_more : (schedule : List ℕ) (t : ℕ) (r r' : Playing) → StandsAt r schedule → GoesOn r r' t →
      StandsAt r' (schedule ++ t ∷ [])
  one_more schedule t r r' at goes =
      subst (StandsFor r') (step_at file program schedule t) (goes (progress_at file program schedule) at)

  pub at_none : (schedule : List ℕ) (r : Playing) → StandsAt r schedule → StandsAt r (schedule ++ [])
  at_none schedule r at = subst (StandsAt r) (sym (append-nil schedule)) at

  -- one step more of a thread's
  pub go_on_more : (schedule : List ℕ) (t j : ℕ) (r r' : Playing) → StandsAt r (schedule ++ replicate j t) →
      GoesOn r r' t →
      StandsAt r' (schedule ++ replicate (j + 1) t)
  go_on_more schedule t j r r' at goes =
      subst (StandsAt r') (steps_more schedule t j) (one_more (schedule ++ replicate j t) t r r' at goes)

  pub did_at : (schedule : List ℕ) (t : ℕ) (r : Playing) (d : Did) → StandsAt r schedule → Does r t d →
      d ≡ (step file program (source_run file program schedule) t).did
  did_at schedule t r d at does = does (progress_at file program schedule) at

  pub did_first : (schedule : List ℕ) (t : ℕ) (r : Playing) (d : Did) → StandsAt r schedule → Does r t d →
      d ≡ (step file program (source_run file program (schedule ++ [])) t).did
  did_first schedule t r d at does = did_at (schedule ++ []) t r d (at_none schedule r at) does

  -- a run along the steps of a schedule, one more
  pub steps_at : (ts : List ℕ) (i d : ℕ) (r r' : Playing) →
      i < length ts →
      StandsAt r (take i ts) →
      GoesOn r r' (get_or ts i d) →
      StandsAt r' (take (i + 1) ts)
  steps_at ts i d r r' lt at goes =
      subst (StandsAt r') (sym (take_more ts i d lt)) (one_more (take i ts) (get_or ts i d) r r' at goes)

  -- its events
  pub history_is : (schedule : List ℕ) (r : Playing) → StandsAt r schedule →
      r.store_and_events.events.items ≡ source_history file program schedule
  history_is schedule r at = ap (λ (p : Progress). p.history) at.shows

pub take_none : (ts : List ℕ) → take 0 ts ≡ []
take_none [] = refl
take_none (t ∷ ts) = refl

-- ---- the steps of a call

module _ (file : File) (program : Program) (schedule : List ℕ) (t call : ℕ) (d : Did) where
  abbrev IsAt : ℕ → Type 0
  IsAt j = d ≡ (step file program (source_run file program (schedule ++ replicate j t)) t).did

  history_after : (j : ℕ) → IsAt j →
      source_history file program (schedule ++ replicate (j + 1) t) ≡
      source_history file program (schedule ++ replicate j t) ++ events_of t d
  history_after j at =
      ap (source_history file program) (sym (steps_more schedule t j))
      ∙ history_more file program (schedule ++ replicate j t) t
      ∙ ap (λ x. source_history file program (schedule ++ replicate j t) ++ events_of t x) (sym at)

  -- the history within the call
  within : (j : ℕ) → IsBegun file program schedule t call j → 1 ≤ j →
      source_history file program (schedule ++ replicate j t) ≡
      source_history file program schedule ++ called t call ∷ []
  within zero b le = absurd (omega arith)
  within (suc j) b le = ap (λ k. source_history file program (schedule ++ replicate k t)) (suc_is j) ∙
      b.is j (omega arith)
    where
      suc_is : (i : ℕ) → suc i ≡ i + 1
      suc_is i = omega arith

  pub none_begun : IsBegun file program schedule t call 0
  none_begun = record { is = λ j lt. absurd (omega arith) }

  pub first_begun : IsAt 0 → events_of t d ≡ called t call ∷ [] → IsBegun file program schedule t call 1
  first_begun at is = record { is = λ j lt. by_zero j (omega arith) }
    where
      by_zero : (j : ℕ) → j ≡ 0 → source_history file program (schedule ++ replicate (j + 1) t) ≡
          source_history file program schedule ++ called t call ∷ []
      by_zero j none = ap (λ k. source_history file program (schedule ++ replicate (k + 1) t)) none
          ∙ history_after 0 at
          ∙ ap (λ l. source_history file program l ++ events_of t d) (append-nil schedule)
          ∙ ap (λ es. source_history file program schedule ++ es) is

  pub more_begun : (j : ℕ) → IsAt j → 1 ≤ j → IsBegun file program schedule t call j → events_of t d ≡ [] →
      IsBegun file program schedule t call (j + 1)
  more_begun j at le b none = record { is = λ i lt. by_place i (cases_lt i j) lt }
    where
      by_place : (i : ℕ) → (i < j) ⊎ (j ≤ i) → i < j + 1 →
          source_history file program (schedule ++ replicate (i + 1) t) ≡
          source_history file program schedule ++ called t call ∷ []
      by_place i (inl less) lt = b.is i less
      by_place i (inr past) lt =
          let same : i ≡ j = omega arith in
          ap (λ k. source_history file program (schedule ++ replicate (k + 1) t)) same
          ∙ history_after j at
          ∙ ap (λ es. source_history file program (schedule ++ replicate j t) ++ es) none
          ∙ append-nil (source_history file program (schedule ++ replicate j t))
          ∙ within j b le

  pub ends_in : (j : ℕ) → IsAt j → 1 ≤ j → IsBegun file program schedule t call j →
      ActsFor file program schedule t (j + 1) →
      IsLast t call (events_of t d) →
      EndsIn file program schedule t (j + 1)
  ends_in j at le b acts last = record {
    call = call;
    before = j;
    is = refl;
    begun = b;
    acts = acts;
    serial = λ s. subst IsSerial
        (sym (history_after j at ∙ ap (λ l. l ++ events_of t d) (within j b le)
        ∙ ap (λ es. (source_history file program schedule ++ called t call ∷ []) ++ es) last.is))
        (serial_more (source_history file program schedule) (called t call) last.end s refl last.ends);
  }
