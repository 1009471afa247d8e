-- What threads do depends on the configuration alone.
use Rattle.std.proofs.Common.{◌≡◌, ℕ, List, [], ◌∷◌, ◌++◌, length, refl, sym, ap, ◌∙◌}
use Rattle.ls_events.specs.declared.event.Event.{Event}
use Rattle.ls_checked.specs.CheckedTree.{File}
use Rattle.ls_checked.specs.CheckedProgram.{Program}
use Rattle.ls_meaning.specs.Steps.{after, run, trace}
use Rattle.ls_meaning.specs.Runs.{State, history_of, source_history, source_run, source_step, start, step}
use Rattle.ls_search_laws.specs.Stepping.{events_of}
use Rattle.ls_search_laws.specs.Configuration.{Configuration, configuration_of, stride}
use Rattle.ls_search_laws.proofs.Renamed.{steps_stride, told_length}
use Rattle.ls_search_laws.proofs.Stepping.{run-append, step_after, traced_events}
use Rattle.ls_search_laws.proofs.Telling.{long_of_all}
use Rattle.ls_automaton.proofs.Programs.{told_append}
use Rattle.ls_automaton.proofs.Settled.{cancel}

module _ (file : File) (program : Program) where
  -- where these threads' steps lead, and what events they have
  abbrev after_strides : Configuration → List ℕ → Configuration
  after_strides c [] = c
  after_strides c (t ∷ ts) = after_strides (stride file c t).after ts

  abbrev told_strides : Configuration → List ℕ → List Event
  told_strides c [] = []
  told_strides c (t ∷ ts) = events_of t (stride file c t).did ++ told_strides (stride file c t).after ts

  abbrev shape : State → Type 0
  shape s = length s.answers ≡ length program.threads

  abbrev pub told : List ℕ → List ℕ → List Event
  told x ts = history_of (trace (source_step file program) (source_run file program x) ts)

  same_told : (ts : List ℕ) (s : State) → shape s →
      told_strides (configuration_of file program s) ts ≡ history_of (trace (source_step file program) s ts)
  same_told [] s is = refl
  same_told (t ∷ ts) s is =
      let e = steps_stride file program s is t in
      ap (λ d. events_of t d ++ told_strides (stride file (configuration_of file program s) t).after ts) (sym e.0)
      ∙ ap (λ k. events_of t (step file program s t).did ++ told_strides k ts) (sym e.1)
      ∙ ap (λ l. events_of t (step file program s t).did ++ l)
      (same_told ts (step file program s t).after (told_length file program s t is))
      ∙ ap (λ z. events_of t (step file program s t).did ++ history_of (trace (source_step file program) z ts))
      (sym (step_after file program s t))
      ∙ sym (traced_events t (step file program s t).did (step file program s t).after
      (trace (source_step file program) (after s (source_step file program s t)) ts))

  same_after : (ts : List ℕ) (s : State) → shape s →
      after_strides (configuration_of file program s) ts
      ≡ configuration_of file program (run (source_step file program) s ts)
  same_after [] s is = refl
  same_after (t ∷ ts) s is =
      let e = steps_stride file program s is t in
      ap (λ k. after_strides k ts) (sym e.1)
      ∙ same_after ts (step file program s t).after (told_length file program s t is)
      ∙ ap (λ z. configuration_of file program (run (source_step file program) z ts))
      (sym (step_after file program s t))

  module _ (x y : List ℕ)
      (same : configuration_of file program (source_run file program x)
      ≡ configuration_of file program (source_run file program y)) (ts : List ℕ) where
    -- after one schedule the same comes as after another
    pub told_same : told x ts ≡ told y ts
    told_same = sym (same_told ts (source_run file program x) (long_of_all file program x))
        ∙ ap (λ k. told_strides k ts) same
        ∙ same_told ts (source_run file program y) (long_of_all file program y)

    pub goes_on_same : configuration_of file program (source_run file program (x ++ ts))
        ≡ configuration_of file program (source_run file program (y ++ ts))
    goes_on_same = ap (configuration_of file program) (run-append (source_step file program) (start program) x ts)
        ∙ sym (same_after ts (source_run file program x) (long_of_all file program x))
        ∙ ap (λ k. after_strides k ts) same
        ∙ same_after ts (source_run file program y) (long_of_all file program y)
        ∙ sym (ap (configuration_of file program) (run-append (source_step file program) (start program) y ts))

  -- a history goes on by what comes
  pub history_told : (x ts : List ℕ) →
      source_history file program (x ++ ts) ≡ source_history file program x ++ told x ts
  history_told x ts = told_append file program (start program) x ts

  pub told_by : (x ts : List ℕ) (es : List Event) →
      source_history file program (x ++ ts) ≡ source_history file program x ++ es → told x ts ≡ es
  told_by x ts es is = cancel (source_history file program x) (told x ts) es (sym (history_told x ts) ∙ is)
