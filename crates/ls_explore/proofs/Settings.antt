-- The setup's source steps, one by one.
use Rattle.std.proofs.Common.{◌≡◌, ◌⊎◌, inl, inr, ℕ, zero, suc, ◌+◌, ◌-◌, ◌<◌, ◌≤◌, Bool, true, false, [], ◌∷◌, ◌++◌}
use Rattle.std.proofs.Common.{length, map, replicate, refl, sym, ap, ◌∙◌, subst, arith, append-nil}
use Rattle.std.proofs.lemmas.Bool.{cases_lt}
use Rattle.std.proofs.lemmas.List.{length-replicate, map-append, replicate-append-replicate}
use Rattle.ls_events.specs.declared.value.Value.{Value}
use Rattle.ls_checked.specs.CheckedTree.{File}
use Rattle.ls_checked.specs.CheckedProgram.{Program}
use Rattle.ls_meaning.specs.Steps.{Entry, Stepped, Same, after, trace, traced}
use Rattle.ls_meaning.specs.Threads.{next}
use Rattle.ls_meaning.specs.Runs.{State, start, source_run, source_trace, source_step, step, stepped, answers_of}
use Rattle.ls_meaning.specs.Runs.{has_ended}
use Rattle.ls_meaning.specs.declared.step.Did.{Did}
use Rattle.ls_meaning.specs.declared.step.Did.TheVariants as did
use Rattle.ls_preservation.specs.Translations.{has_setup_ended}
use Rattle.ls_source.specs.Progress.{Progress, begun, gone_on}
use Rattle.ls_meaning.specs.Still.{has_acted}
use Rattle.ls_translation.proofs.SourceSteps.{after_step_is}
use Rattle.ls_meaning.specs.Still.{IsStill}
use Rattle.ls_explore.proofs.SourceSteps.{run-append, trace-append}
use Rattle.ls_explore.proofs.SettingUp.{one_more}
use Rattle.ls_explore.specs.Settings.{EndsAt, GoesOnAfter, GoesOnFor, SticksAt}

-- a run of so many steps of the setup, before each of which it hasn't ended, and which all act
pub record IsAfter (file : File) (program : Program) (k : ℕ) (p : Progress) : Type 0 where
  pub of_file : p.file ≡ file
  pub of_program : p.program ≡ program
  pub reached : p.state ≡ source_run file program (replicate k 0)
  pub before : GoesOnAfter file program k
  pub acts : map (λ (e : Entry Value). e.thread) (source_trace file program (replicate k 0)) ≡ replicate k 0

pub after_none : (file : File) (program : Program) (p : Progress) → p ≡ begun file program → IsAfter file program 0 p
after_none file program p e = record {
  of_file = ap (λ (q : Progress). q.file) e;
  of_program = ap (λ (q : Progress). q.program) e;
  reached = ap (λ (q : Progress). q.state) e;
  before = λ j less. absurd (omega arith);
  acts = refl;
}

-- a step that doesn't act stands still, and one that does has an entry of its thread
still_of : (d : Did) → has_acted d ≡ false → IsStill d
still_of (did.Acted a x) e = absurd cc
still_of did.Waits e = tt
still_of did.Idle e = tt

entry_of : (t : ℕ) (s : State) (d : Did) →
    has_acted d ≡ true →
    map (λ (e : Entry Value). e.thread) (traced (stepped t d s) []) ≡ t ∷ []
entry_of t s (did.Acted a x) e = refl
entry_of t s did.Waits e = absurd cc
entry_of t s did.Idle e = absurd cc

module _ (file : File) (program : Program) (k : ℕ) (p : Progress) (h : IsAfter file program k p) where
  ended_is : has_ended (next p.file p.program 0 (answers_of p.state 0)) ≡ has_setup_ended file program
      (source_run file program (replicate k 0))
  ended_is =
      ap (λ f. has_ended (next f p.program 0 (answers_of p.state 0))) h.of_file
      ∙ ap (λ g. has_ended (next file g 0 (answers_of p.state 0))) h.of_program
      ∙ ap (λ s. has_ended (next file program 0 (answers_of s 0))) h.reached

  did_is : (step p.file p.program p.state 0).did ≡ (step file program (source_run file program (replicate k 0)) 0).did
  did_is =
      ap (λ f. (step f p.program p.state 0).did) h.of_file
      ∙ ap (λ g. (step file g p.state 0).did) h.of_program
      ∙ ap (λ s. (step file program s 0).did) h.reached

  pub ends_here : (b : Bool) →
      b ≡ has_ended (next p.file p.program 0 (answers_of p.state 0)) →
      b ≡ true →
      EndsAt file program k
  ends_here b e over = record { ended = sym ended_is ∙ sym e ∙ over; before = h.before; acts = h.acts }

  -- one step more at which it hasn't ended
  before_more : (b : Bool) →
      b ≡ has_ended (next p.file p.program 0 (answers_of p.state 0)) →
      b ≡ false →
      (n : ℕ) →
      n ≡ k + 1 →
      GoesOnAfter file program n
  before_more b e goes n is = λ j less. by_count j (cases_lt j k) less
    where
      by_count : (j : ℕ) →
          (j < k) ⊎ (k ≤ j) →
          j < n →
          has_setup_ended file program (source_run file program (replicate j 0)) ≡ false
      by_count j (inl less) all = h.before j less
      by_count j (inr past) all =
          let same : k ≡ j = omega arith in
          subst (λ i. has_setup_ended file program (source_run file program (replicate i 0)) ≡ false) same
          (sym ended_is ∙ sym e ∙ goes)

  -- where it stands still and hasn't ended, it is stuck
  pub sticks : (b : Bool) (d : Did) →
      b ≡ has_ended (next p.file p.program 0 (answers_of p.state 0)) →
      b ≡ false →
      d ≡ (step p.file p.program p.state 0).did →
      has_acted d ≡ false →
      SticksAt file program k
  sticks b d e goes is stands =
      let more : suc k ≡ k + 1 = omega arith in
      record {
        stuck = record {
          still = still_of _ (ap has_acted (sym (is ∙ did_is)) ∙ stands);
          before = before_more b e goes (suc k) more;
        };
        acts = h.acts;
      }

  pub goes_all : GoesOnFor file program k
  goes_all = record { before = h.before; acts = h.acts }

  pub after_more : (b : Bool) (d : Did) (q : Progress) →
      b ≡ has_ended (next p.file p.program 0 (answers_of p.state 0)) →
      b ≡ false →
      d ≡ (step p.file p.program p.state 0).did →
      has_acted d ≡ true →
      q ≡ gone_on p 0 →
      IsAfter file program (k + 1) q
  after_more b d q e goes did_e acted is =
      let more : suc k ≡ k + 1 = omega arith in
      let here : State = source_run file program (replicate k 0) in
      let longer : replicate k 0 ++ 0 ∷ [] ≡ replicate (k + 1) 0 = one_more k ∙ ap (λ n. replicate n 0) more in
      record {
        of_file = ap (λ (r : Progress). r.file) is ∙ h.of_file;
        of_program = ap (λ (r : Progress). r.program) is ∙ h.of_program;
        reached =
            ap (λ (r : Progress). r.state) is
            ∙ ap (λ f. (step f p.program p.state 0).after) h.of_file
            ∙ ap (λ g. (step file g p.state 0).after) h.of_program
            ∙ ap (λ s. (step file program s 0).after) h.reached
            ∙ sym (after_step_is file program here 0)
            ∙ sym (run-append (source_step file program) (start program) (replicate k 0) (0 ∷ []))
            ∙ ap (source_run file program) longer;
        before = before_more b e goes (k + 1) refl;
        acts =
            ap (λ ts. map (λ (f : Entry Value). f.thread) (source_trace file program ts)) (sym longer)
            ∙ ap (map (λ (f : Entry Value). f.thread)) (trace-append (source_step file program) (start program)
            (replicate k 0) (0 ∷ []))
            ∙ map-append (λ (f : Entry Value). f.thread) (source_trace file program (replicate k 0))
            (traced (source_step file program here 0) [])
            ∙ ap (λ l. l ++ map (λ (f : Entry Value). f.thread) (traced (source_step file program here 0) [])) h.acts
            ∙ ap (λ l. replicate k 0 ++ l) (entry_of 0 (step file program here 0).after (step file program here 0).did
            (ap has_acted (sym (did_e ∙ did_is)) ∙ acted))
            ∙ longer;
      }

-- ---- a setup doesn't go on that ends or stands still

-- a flag isn't both
pub no_both : true ≡ false → ⊥
no_both e = cc

-- a setup that has ended doesn't go on for more steps
pub not_ending : (file : File) (program : Program) (j k : ℕ) →
    EndsAt file program j →
    j < k →
    GoesOnFor file program k →
    ⊥
not_ending file program j k ends less goes = no_both (sym ends.ended ∙ goes.before j less)

module _ (file : File) (program : Program) where
  abbrev sd : State → ℕ → Stepped State (Entry Value)
  sd = source_step file program

  still_same : (d : Did) (s : State) → IsStill d → stepped 0 d s ≡ Same
  still_same (did.Acted a x) s h = absurd h
  still_same did.Waits s h = refl
  still_same did.Idle s h = refl

  -- steps that change nothing leave no trace
  still_trace : (s : State) (n : ℕ) →
      source_step file program s 0 ≡ Same →
      trace (source_step file program) s (replicate n 0) ≡ []
  still_trace s zero e = refl
  still_trace s (suc n) e = ap (λ d. traced d (trace (source_step file program) (after s d) (replicate n 0))) e ∙
      still_trace s n e

  -- a setup that stands still doesn't act in more steps
  pub not_sticking : (j k : ℕ) → SticksAt file program j → j < k → GoesOnFor file program k → ⊥
  not_sticking j k stands less goes =
      let all : j + (k - j) ≡ k = omega arith in
      let whole : replicate j zero ++ replicate (k - j) zero ≡ replicate k zero = replicate-append-replicate j (k - j)
      zero ∙ ap (λ n. replicate n zero) all in
      let here : State = source_run file program (replicate j 0) in
      let none : trace (source_step file program) here (replicate (k - j) 0) ≡ [] = still_trace here (k - j)
      (still_same (step file program here 0).did (step file program here 0).after stands.stuck.still) in
      let same : source_trace file program (replicate k 0) ≡ source_trace file program (replicate j 0) =
      ap (source_trace file program) (sym whole)
      ∙ trace-append (source_step file program) (start program) (replicate j 0) (replicate (k - j) 0)
      ∙ ap (λ l. source_trace file program (replicate j 0) ++ l) none
      ∙ append-nil (source_trace file program (replicate j 0)) in
      let counts : replicate j zero ≡ replicate k zero = sym stands.acts ∙
      sym (ap (map (λ (f : Entry Value). f.thread)) same) ∙ goes.acts in
      omega (arith, less, ap length counts, length-replicate j zero, length-replicate k zero)
