-- Calls that never end while no other thread goes on.
use Rattle.std.proofs.Common.{◌≡◌, ◌⊎◌, inl, inr, ℕ, zero, suc, ◌+◌, ◌-◌, ◌<◌, ◌≤◌, List, [], ◌∷◌, ◌++◌, length}
use Rattle.std.proofs.Common.{replicate, refl, sym, ap, ◌∙◌, subst, arith, append-nil}
use Rattle.std.proofs.lemmas.Bool.{cases_lt}
use Rattle.std.proofs.lemmas.List.{length-append}
use Rattle.ls_events.specs.declared.event.Event.{Event}
use Rattle.ls_checked.specs.CheckedTree.{File}
use Rattle.ls_checked.specs.CheckedProgram.{Program}
use Rattle.ls_meaning.specs.declared.step.Did.{Did}
use Rattle.ls_meaning.specs.declared.step.Did.TheVariants as did
use Rattle.ls_meaning.specs.Still.{IsActing, IsStill}
use Rattle.ls_meaning.specs.Runs.{source_history, source_run, step}
use Rattle.ls_serial_search.specs.Endless.{IsEndlessAfter}
use Rattle.ls_serial_search.specs.Following.{IsBegun, NeverEnds, called, events_of}
use Rattle.ls_serial_search.specs.Happened.{WaitsWithin}
use Rattle.ls_serial_search.specs.Open.{HasEnded}
use Rattle.ls_serial_search.proofs.Stepping.{acts_within, history_more, state_more, steps_more, still_stays}

no_events : (t : ℕ) (d : Did) → IsStill d → events_of t d ≡ []
no_events t (did.Acted a x) still = absurd still
no_events t did.Waits still = refl
no_events t did.Idle still = refl

module _ (file : File) (program : Program) (schedule : List ℕ) (t : ℕ) where
  abbrev pub after : ℕ → List ℕ
  after j = schedule ++ replicate j t

  pub suc_is : (j : ℕ) → suc j ≡ j + 1
  suc_is j = omega arith

  pub state_next : (j : ℕ) → source_run file program (after (suc j)) ≡
      (step file program (source_run file program (after j)) t).after
  state_next j = ap (λ k. source_run file program (after k)) (suc_is j)
      ∙ ap (source_run file program) (sym (steps_more schedule t j)) ∙ state_more file program (after j) t

  pub history_next : (j : ℕ) → source_history file program (after (suc j)) ≡
      source_history file program (after j) ++
      events_of t (step file program (source_run file program (after j)) t).did
  history_next j = ap (λ k. source_history file program (after k)) (suc_is j)
      ∙ ap (source_history file program) (sym (steps_more schedule t j)) ∙ history_more file program (after j) t

  abbrev pub StillAt : ℕ → Type 0
  StillAt j = IsStill (step file program (source_run file program (after j)) t).did

  -- after so many steps more the state is the same
  pub state_kept : (j k : ℕ) → StillAt j → source_run file program (after (k + j)) ≡ source_run file program (after j)
  state_kept j zero still = let e : 0 + j ≡ j = omega arith in ap (λ n. source_run file program (after n)) e
  state_kept j (suc k) still =
      let e : suc k + j ≡ suc (k + j) = omega arith in
      let same = state_kept j k still in
      ap (λ n. source_run file program (after n)) e ∙ state_next (k + j)
      ∙ ap (λ s. (step file program s t).after) same
      ∙ still_stays file program (source_run file program (after j)) t still

  -- and the history
  pub history_kept : (j k : ℕ) → StillAt j →
      source_history file program (after (k + j)) ≡ source_history file program (after j)
  history_kept j zero still = let e : 0 + j ≡ j = omega arith in ap (λ n. source_history file program (after n)) e
  history_kept j (suc k) still =
      let e : suc k + j ≡ suc (k + j) = omega arith in
      let quiet = no_events t _ (subst (λ s. IsStill (step file program s t).did) (sym (state_kept j k still)) still) in
      ap (λ n. source_history file program (after n)) e ∙ history_next (k + j)
      ∙ ap (λ es. source_history file program (after (k + j)) ++ es) quiet
      ∙ append-nil (source_history file program (after (k + j))) ∙ history_kept j k still

  -- no history gets shorter
  pub no_shorter : (j k : ℕ) →
      length (source_history file program (after j)) ≤ length (source_history file program (after (k + j)))
  no_shorter j zero = let e : 0 + j ≡ j = omega arith in
      omega (arith, ap (λ n. length (source_history file program (after n))) e)
  no_shorter j (suc k) =
      let e : suc k + j ≡ suc (k + j) = omega arith in
      let is = ap (λ n. source_history file program (after n)) e ∙ history_next (k + j) in
      let before = no_shorter j k in
      omega (
        arith,
        before,
        ap length is,
        length-append (source_history file program (after (k + j)))
            (events_of t (step file program (source_run file program (after (k + j))) t).did),
      )

  pub one_longer : (h : List Event) (c : Event) → length (h ++ c ∷ []) ≡ length h + 1
  one_longer h c = length-append h (c ∷ [])

  pub at_first : source_history file program (after 0) ≡ source_history file program schedule
  at_first = ap (source_history file program) (append-nil schedule)

  -- the history within a call
  pub begun_at : (call j : ℕ) → IsBegun file program schedule t call j → 1 ≤ j →
      source_history file program (after j) ≡ source_history file program schedule ++ called t call ∷ []
  begun_at call zero b le = absurd (omega (arith, le))
  begun_at call (suc j) b le = ap (λ k. source_history file program (after k)) (suc_is j) ∙ b.is j (omega arith)

  -- where nothing more comes after some steps within a call, the call never ends
  pub never_by : (call j : ℕ) → IsBegun file program schedule t call j →
      ((k : ℕ) → source_history file program (after (k + j)) ≡
      source_history file program schedule ++ called t call ∷ []) →
      NeverEnds file program schedule t call
  never_by call j b stays steps = record { is = λ i less. by_place i (cases_lt i j) }
    where
      by_place : (i : ℕ) → (i < j) ⊎ (j ≤ i) →
          source_history file program (after (i + 1)) ≡ source_history file program schedule ++ called t call ∷ []
      by_place i (inl less) = b.is i less
      by_place i (inr past) =
          let e : i + 1 ≡ ((i + 1) - j) + j = omega (arith, past) in
          ap (λ n. source_history file program (after n)) e ∙ stays ((i + 1) - j)

  -- a thread that waits within a call
  pub still_never : (call j : ℕ) → IsBegun file program schedule t call j → 1 ≤ j → StillAt j →
      NeverEnds file program schedule t call
  still_never call j b le still = never_by call j b (λ k. history_kept j k still ∙ begun_at call j b le)

  -- a call whose thread waits
  pub waiting_never : (call j : ℕ) → WaitsWithin file program schedule t call j → NeverEnds file program schedule t call
  waiting_never call j w = still_never call j w.begun w.some w.waits

  -- ---- a call that never ends

  -- it isn't of a thread that doesn't act
  pub never_called : (c : Event) → StillAt 0 → IsEndlessAfter file program schedule t c → ⊥
  never_called c still w =
      let e : (w.steps + 0) + 0 ≡ w.steps + 0 = omega arith in
      let same = ap (λ n. length (source_history file program (after n))) (sym e) ∙
      ap length (history_kept 0 (w.steps + 0) still ∙ at_first) in
      omega (arith, same, ap length (w.never 0), one_longer (source_history file program schedule) c)

  -- it isn't one that ends
  pub never_ended : (c : Event) (n : ℕ) → HasEnded file program schedule t n →
      IsEndlessAfter file program schedule t c →
      ⊥
  never_ended c n ended w =
      let long = ap length ended.is ∙
      length-append (source_history file program schedule) (called t ended.call ∷ ended.end ∷ []) in
      omega (
        arith,
        no_shorter n w.steps,
        long,
        ap length (w.never n),
        one_longer (source_history file program schedule) c,
      )

  -- two of them are one
  pub one_history : (call : ℕ) (c : Event) → NeverEnds file program schedule t call →
      IsEndlessAfter file program schedule t c →
      source_history file program schedule ++ called t call ∷ [] ≡ source_history file program schedule ++ c ∷ []
  one_history call c never w = sym ((never (w.steps + 1)).is w.steps (omega arith)) ∙ w.never 1

  -- its thread is there
  pub endless_within : (c : Event) → IsEndlessAfter file program schedule t c → t < length program.threads
  endless_within c w = by_did (step file program (source_run file program (after 0)) t).did refl
    where
      by_did : (d : Did) → d ≡ (step file program (source_run file program (after 0)) t).did →
          t < length program.threads
      by_did (did.Acted a x) is = acts_within file program (source_run file program (after 0)) t
          (subst IsActing is tt)
      by_did did.Waits is = absurd (never_called c (subst IsStill is tt) w)
      by_did did.Idle is = absurd (never_called c (subst IsStill is tt) w)
