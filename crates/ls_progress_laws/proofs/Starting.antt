-- Runs of a program are those from before its first step on.
use Rattle.std.proofs.Common.{◌≡◌, ◌⊎◌, inl, inr, ℕ, ◌≤◌, List, [], ◌∷◌, ◌++◌, length, refl, sym, ap, ◌∙◌, subst, arith}
use Rattle.std.proofs.Common.{append-nil, append_assoc}
use Rattle.std.specs.Prelude.{Contains}
use Rattle.ls_checked.specs.CheckedTree.{File}
use Rattle.ls_checked.specs.CheckedProgram.{Program}
use Rattle.ls_meaning.specs.declared.step.Did.TheVariants as did
use Rattle.ls_meaning.specs.Runs.{State, source_history, source_run, step}
use Rattle.ls_search_laws.specs.Stepping.{events_of}
use Rattle.ls_search_laws.specs.Configuration.{Configuration, configuration_of, stride}
use Rattle.ls_search_laws.proofs.Renamed.{step_stride}
use Rattle.ls_search_laws.proofs.Stepping.{one_more}
use Rattle.ls_search_laws.proofs.Telling.{long_of_all}
use Rattle.ls_progress_laws.specs.From.{GoesRoundFairlyFrom, GoesRoundFrom, IsBoundedFrom, IsFairByLocks}
use Rattle.ls_progress_laws.specs.Laws.{GoesRoundByLocks, RunsFromStart, place_after}
use Rattle.ls_progress_laws.specs.Progress.{GoesRound, GoesRoundFairly, IsBounded, Kind, pending, rounds}
use Rattle.ls_progress_laws.specs.Strides.{AreWithin, end, events_along, own_strides}
use Rattle.ls_progress_laws.proofs.Steps.{end_is, own_is, within_is, within_was}

module _ (file : File) (program : Program) where
  pub history_is : (schedule path : List ℕ) →
      source_history file program (schedule ++ path) ≡
      source_history file program schedule ++ events_along file (place_after file program schedule) path
  history_is schedule [] =
      ap (source_history file program) (append-nil schedule) ∙ sym (append-nil (source_history file program schedule))
  history_is schedule (u ∷ path) =
      let s : State = source_run file program schedule in
      let d : Configuration = place_after file program schedule in
      let go = step_stride file program s (long_of_all file program schedule) u in
      let more = one_more file program schedule u in
      let place : place_after file program (schedule ++ u ∷ []) ≡ (stride file d u).after =
      ap (configuration_of file program) more.state ∙ go.1 in
      ap (source_history file program) (sym (append_assoc schedule (u ∷ []) path))
      ∙ history_is (schedule ++ u ∷ []) path
      ∙ ap (λ h. h ++ events_along file (place_after file program (schedule ++ u ∷ [])) path) more.history
      ∙ ap (λ c. (source_history file program schedule ++ events_of u (step file program s u).did)
      ++ events_along file c path) place
      ∙ ap (λ x. (source_history file program schedule ++ events_of u x)
      ++ events_along file (stride file d u).after path) go.0
      ∙ append_assoc (source_history file program schedule) (events_of u (stride file d u).did)
      (events_along file (stride file d u).after path)

module _ (kind : Kind) (file : File) (program : Program) (call : ℕ) where
  abbrev begin : Configuration
  begin = place_after file program []

  place_is : (schedule : List ℕ) → end file begin schedule ≡ place_after file program schedule
  place_is schedule = end_is kind file program [] schedule

  bounded : (most : ℕ) → IsBoundedFrom kind file begin call most → IsBounded kind file program call most
  bounded most b before path in_call w =
      let s : State = source_run file program before in
      let long = long_of_all file program before in
      let place = place_is before in
      let steps = b before path (sym (ap (pending kind.thread) (history_is file program [] before)) ∙ in_call)
      (subst (λ c. AreWithin kind file c path) (sym place) (within_is kind file program s path long w)) in
      let same = own_is kind file program s path long in
      let there = ap (λ c. own_strides kind file c path) place in
      omega (arith, steps, same, there)

  round : (way cycle : List ℕ) → GoesRoundFrom kind file begin call way cycle →
      GoesRound kind file program call way cycle
  round way cycle g =
      let s : State = source_run file program way in
      let long = long_of_all file program way in
      let place = place_is way in
      record {
        in_call = ap (pending kind.thread) (history_is file program [] way) ∙ g.in_call;
        within = λ n. within_was kind file program s (rounds n cycle) long
            (subst (λ c. AreWithin kind file c (rounds n cycle)) place (g.within n));
        many = λ n. subst (λ k. n ≤ k) (ap (λ c. own_strides kind file c (rounds n cycle)) place
            ∙ sym (own_is kind file program s (rounds n cycle) long)) (g.many n);
      }

  idle : (way : List ℕ) (u : ℕ) → (stride file (end file begin way) u).did ≡ did.Idle →
      (step file program (source_run file program way) u).did ≡ did.Idle
  idle way u e =
      (step_stride file program (source_run file program way) (long_of_all file program way) u).0
      ∙ ap (λ c. (stride file c u).did) (sym (place_is way)) ∙ e

  goes_or_idles : (way cycle : List ℕ) (u : ℕ) →
      Contains cycle u ⊎ ((stride file (end file begin way) u).did ≡ did.Idle) →
      Contains cycle u ⊎ ((step file program (source_run file program way) u).did ≡ did.Idle)
  goes_or_idles way cycle u (inl takes) = inl takes
  goes_or_idles way cycle u (inr e) = inr (idle way u e)

pub runs_from_start : RunsFromStart
runs_from_start kind file program call =
    record {
      bounded = bounded kind file program call;
      round = round kind file program call;
      fairly = λ way cycle g. fairly way cycle g;
      by_locks = λ way cycle g. record {
        fairly = fairly way cycle g.fairly;
        locks = subst (λ c. IsFairByLocks file c cycle) (place_is kind file program call way) g.locks;
      };
    }
  where
    fairly : (way cycle : List ℕ) →
        GoesRoundFairlyFrom kind file (place_after file program []) (length program.threads) call way cycle →
        GoesRoundFairly kind file program call way cycle
    fairly way cycle g = record {
      round = round kind file program call way cycle g.round;
      fair = λ u first less. goes_or_idles kind file program call way cycle u (g.fair u first less);
    }
