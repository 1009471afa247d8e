-- Where threads turn for ever, no steps come to an event or to rest.
use Rattle.std.proofs.Common.{◌≡◌, inl, inr, ℕ, List, [], ◌∷◌, ◌++◌, length, sym, subst, append-nil}
use Rattle.ls_checked.specs.CheckedTree.{File}
use Rattle.ls_checked.specs.CheckedProgram.{Program}
use Rattle.ls_meaning.specs.declared.step.Did.{Did}
use Rattle.ls_meaning.specs.declared.step.Did.TheVariants as did
use Rattle.ls_meaning.specs.Renamings.{IsRenaming}
use Rattle.ls_meaning.specs.Runs.{source_run, step}
use Rattle.ls_meaning.specs.Still.{IsActing, IsStill}
use Rattle.ls_search_laws.specs.Configuration.{Configuration, IsRenamed, renamed_did, stride}
use Rattle.ls_search_laws.specs.Stepping.{events_of}
use Rattle.ls_search_laws.proofs.Renamed.{step_stride, stride_other}
use Rattle.ls_search_laws.proofs.Stepping.{acts_within}
use Rattle.ls_search_laws.proofs.Telling.{long_of_all}
use Rattle.ls_spinning.specs.Sounding.{Sounds}
use Rattle.ls_spinning.specs.Turning.{TurnsForEver}
use Rattle.ls_spinning.proofs.Hearing.{not_silent, run_at, sounds_other, turns_later}
use Rattle.ls_spinning.proofs.Staying.{run_after}
use Rattle.ls_endless_calls.specs.Breaking.{Breaks}

still_renamed : (names : ℕ → ℕ) (d : Did) → IsStill d → IsStill (renamed_did names d)
still_renamed names (did.Acted a x) still = absurd still
still_renamed names did.Waits still = tt
still_renamed names did.Idle still = tt

not_acting : (d : Did) → IsStill d → IsActing d → ⊥
not_acting (did.Acted a x) still acts = absurd still
not_acting did.Waits still acts = absurd acts
not_acting did.Idle still acts = absurd acts

one_sound : (file : File) (u : ℕ) (c : Configuration) → Sounds file (u ∷ []) c →
    events_of u (stride file c u).did ≡ [] →
    ⊥
one_sound file u c (inl loud) none = loud none
one_sound file u c (inr nowhere) none = nowhere

-- under other names they come there too
pub breaks_other : (file : File) (threads : ℕ) (names : ℕ → ℕ) → IsRenaming names → (path : List ℕ)
    (c d : Configuration) → IsRenamed names c d → Breaks file threads path c → Breaks file threads path d
breaks_other file threads names is [] c d same still = λ t less.
    subst IsStill (sym (stride_other file names is c d same t).did)
    (still_renamed names (stride file c t).did (still t less))
breaks_other file threads names is (u ∷ path) c d same (inl loud) =
    inl (one_sound file u d (sounds_other file names is (u ∷ []) c d same (inl loud)))
breaks_other file threads names is (u ∷ path) c d same (inr h) =
    inr (breaks_other file threads names is path (stride file c u).after (stride file d u).after
    (stride_other file names is c d same u).after h)

module _ (file : File) (program : Program) where
  pub not_endless : (path schedule : List ℕ) → TurnsForEver file program schedule →
      Breaks file (length program.threads) path (run_at file program schedule) →
      ⊥
  not_endless [] schedule turns still =
      let one = turns.acts [] in
      let state = source_run file program schedule in
      let acts : IsActing (step file program state one.0).did =
      subst (λ (l : List ℕ). IsActing (step file program (source_run file program l) one.0).did) (append-nil schedule)
      one.1 in
      not_acting (stride file (run_at file program schedule) one.0).did
      (still one.0 (acts_within file program state one.0 acts))
      (subst IsActing (step_stride file program state (long_of_all file program schedule) one.0).0 acts)
  not_endless (u ∷ path) schedule turns (inl loud) =
      not_silent file program (u ∷ []) schedule (inl loud) turns.silent
  not_endless (u ∷ path) schedule turns (inr h) =
      not_endless path (schedule ++ u ∷ []) (turns_later file program schedule (u ∷ []) turns)
      (subst (Breaks file (length program.threads) path) (run_after file program schedule u) h)
