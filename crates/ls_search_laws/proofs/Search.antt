-- A search finds each schedule.
use Rattle.std.proofs.Common.{◌≡◌, ◌⊎◌, inl, inr, ℕ, Bool, false, List, [], ◌∷◌, ◌++◌, fold, length}
use Rattle.std.proofs.Common.{replicate, refl, sym, ap, ◌∙◌, subst}
use Rattle.std.proofs.lemmas.List.Sums.{fold-append}
use Rattle.ls_events.specs.declared.value.Value.{Value}
use Rattle.ls_events.specs.declared.action.Action.{Action}
use Rattle.ls_events.specs.declared.action.Answer.{Answer}
use Rattle.ls_events.specs.declared.event.Event.{Event}
use Rattle.ls_checked.specs.CheckedTree.{File}
use Rattle.ls_checked.specs.CheckedProgram.{Program}
use Rattle.ls_meaning.specs.declared.step.Did.{Did}
use Rattle.ls_meaning.specs.declared.step.Did.TheVariants as did
use Rattle.ls_meaning.specs.Renamings.{renamed_action, renamed_answer}
use Rattle.ls_meaning.specs.Runs.{State, source_history, source_run, step}
use Rattle.ls_meaning.specs.Still.{IsActing, IsOver, IsStill}
use Rattle.ls_search_laws.specs.Stepping.{IsBefore, events_of}
use Rattle.ls_search_laws.specs.AtOnce.{Choice}
use Rattle.ls_search_laws.specs.Configuration.{Configuration, configuration_of, renamed_did, stride}
use Rattle.ls_search_laws.specs.Noticing.{Noticed, noticed_of}
use Rattle.ls_search_laws.specs.Search.{FindsAll, FindsEnds, FindsNoneBad, IsEndFound, IsFound, IsSearch, LeadsTo}
use Rattle.ls_search_laws.proofs.Founding.{AreClosed, found_step}
use Rattle.ls_search_laws.proofs.Stepping.{acts_within}
use Rattle.ls_search_laws.proofs.Covering.{IsKept, holds_after_setup, not_over}
use Rattle.ls_search_laws.proofs.Noting.{by_truth, false_not_true, good_early}
use Rattle.ls_search_laws.proofs.Renamed.{step_stride, stride_other, told_length}
use Rattle.ls_search_laws.proofs.Telling.{long_of_all}

module _ {M : Type 0} (first : M) (next : M → Event → M) (quiet : Choice) (Names : (ℕ → ℕ) → Type 0)
    (Alike : M → M → Type 0) (file : File) (program : Program) where
  -- as many lists of answers as threads, and the configuration is found
  record Has (pairs : List (Noticed M)) (s : State) (h : List Event) : Type 0 where
    pub long : length s.answers ≡ length program.threads
    pub one : IsFound quiet Names Alike file pairs (record {
      configuration = configuration_of file program s;
      noted = fold next first h;
    })

  still_before : (names : ℕ → ℕ) (d : Did) → IsStill (renamed_did names d) → IsStill d
  still_before names (did.Acted a x) still = still
  still_before names did.Waits still = tt
  still_before names did.Idle still = tt

  module _ (k : ℕ) (pairs : List (Noticed M))
      (search : IsSearch first next quiet Names Alike file program k pairs) where
    closed : AreClosed next quiet Names Alike file (length program.threads) pairs
    closed = record {
      names = search.names;
      alike = search.alike;
      fair = search.fair;
      more = search.complete.more;
      unnoticed = search.complete.unnoticed;
    }

    -- a step of a schedule is one of its configuration
    has_kept : IsKept file program (Has pairs)
    has_kept s h t has acts =
        let go = step_stride file program s has.long t in record {
          long = told_length file program s t has.long;
          one = subst (λ z. IsFound quiet Names Alike file pairs (record {
            configuration = z;
            noted = fold next first (h ++ events_of t (step file program s t).did);
          })) (sym go.1)
              (subst (λ n. IsFound quiet Names Alike file pairs (record {
                configuration = (stride file (configuration_of file program s) t).after;
                noted = n;
              })) (ap (λ d. fold next (fold next first h) (events_of t d)) (sym go.0)
              ∙ sym (fold-append next first h (events_of t (step file program s t).did)))
              (found_step next quiet Names Alike file (length program.threads) pairs closed (record {
                configuration = configuration_of file program s;
                noted = fold next first h;
              }) t has.one (acts_within file program s t acts) (subst IsActing go.0 acts)));
        }

    has_all : (schedule : List ℕ) →
        Has pairs (source_run file program schedule) (source_history file program schedule)
        ⊎ IsBefore file program k schedule
    has_all schedule =
        holds_after_setup file program k search.up (Has pairs) has_kept
        (record { long = long_of_all file program (replicate k 0); one = search.root }) schedule

    waits_before : (names : ℕ → ℕ) (d : Did) → renamed_did names d ≡ did.Waits → d ≡ did.Waits
    waits_before names (did.Acted a x) e = absurd (not_acted (renamed_action names a) (renamed_answer names x) e)
      where
        not_acted : (b : Action Value) (y : Answer Value) → did.Acted b y ≡ did.Waits → ⊥
        not_acted b y h = cc
    waits_before names did.Waits e = refl
    waits_before names did.Idle e = absurd (not_idle e)
      where
        not_idle : did.Idle ≡ did.Waits → ⊥
        not_idle h = cc

    not_still : (d : Did) (a : Action Value) (x : Answer Value) → d ≡ did.Acted a x → IsStill d → ⊥
    not_still d a x e still = subst IsStill e still

    end_of : (schedule : List ℕ) →
        IsOver file program (source_run file program schedule) →
        (has : Has pairs (source_run file program schedule) (source_history file program schedule)) →
        IsEndFound first next quiet Names Alike file program pairs schedule
    end_of schedule over has = record {
      found = has.one;
      over = λ t. by_threads has.one.threads has.one.leads t;
      waits = λ t e. by_threads_waits has.one.threads has.one.leads t e;
    }
      where
        c : Configuration
        c = configuration_of file program (source_run file program schedule)

        still : (t : ℕ) → IsStill (stride file (configuration_of file program (source_run file program schedule)) t).did
        still t = subst IsStill (step_stride file program (source_run file program schedule) has.long t).0 (over t)

        by_threads : (ts : List ℕ) →
            LeadsTo quiet file (configuration_of file program (source_run file program schedule)) ts has.one.last →
            (t : ℕ) →
            IsStill (stride file has.one.pair.configuration t).did
        by_threads [] leads t =
            still_before has.one.names (stride file has.one.pair.configuration t).did
            (subst IsStill
            (stride_other file has.one.names (search.names.each has.one.names has.one.allowed)
            has.one.pair.configuration has.one.last has.one.same t).did
            (subst (λ z. IsStill (stride file z t).did) leads (still t)))
        by_threads (u ∷ us) leads t =
            absurd (not_still
            (stride file (configuration_of file program (source_run file program schedule)) u).did leads.0.action
            leads.0.answer leads.0.did (still u))

        same_did : configuration_of file program (source_run file program schedule) ≡ has.one.last →
            (t : ℕ) →
            (step file program (source_run file program schedule) t).did ≡
            renamed_did has.one.names (stride file has.one.pair.configuration t).did
        same_did leads t =
            (step_stride file program (source_run file program schedule) has.long t).0
            ∙ ap (λ z. (stride file z t).did) leads
            ∙ (stride_other file has.one.names (search.names.each has.one.names has.one.allowed)
            has.one.pair.configuration has.one.last has.one.same t).did

        by_threads_waits : (ts : List ℕ) →
            LeadsTo quiet file (configuration_of file program (source_run file program schedule)) ts has.one.last →
            (t : ℕ) →
            (step file program (source_run file program schedule) t).did ≡ did.Waits →
            (stride file has.one.pair.configuration t).did ≡ did.Waits
        by_threads_waits [] leads t e =
            waits_before has.one.names (stride file has.one.pair.configuration t).did (sym (same_did leads t) ∙ e)
        by_threads_waits (u ∷ us) leads t e =
            absurd (not_still
            (stride file (configuration_of file program (source_run file program schedule)) u).did leads.0.action
            leads.0.answer leads.0.did (still u))

  pub finds_all : FindsAll first next quiet Names Alike file program
  finds_all k pairs search schedule = by_cover (has_all k pairs search schedule)
    where
      by_cover : Has pairs (source_run file program schedule) (source_history file program schedule)
          ⊎ IsBefore file program k schedule →
          IsFound quiet Names Alike file pairs (noticed_of first next file program schedule)
          ⊎ IsBefore file program k schedule
      by_cover (inl has) = inl has.one
      by_cover (inr b) = inr b

  pub finds_ends : FindsEnds first next quiet Names Alike file program
  finds_ends k pairs search schedule over = by_cover (has_all k pairs search schedule)
    where
      by_cover : Has pairs (source_run file program schedule) (source_history file program schedule)
          ⊎ IsBefore file program k schedule → IsEndFound first next quiet Names Alike file program pairs schedule
      by_cover (inl has) = end_of k pairs search schedule over has
      by_cover (inr b) = absurd (not_over file program k search.up schedule b over)

  pub finds_none_bad : (is_bad : M → Bool) → FindsNoneBad first next quiet Names Alike file program is_bad
  finds_none_bad is_bad k pairs search bad_alike stays good schedule = by_cover (has_all k pairs search schedule)
    where
      good_one : (p : Noticed M) → IsFound quiet Names Alike file pairs p → is_bad p.noted ≡ false
      good_one p has = by_truth next is_bad stays (is_bad p.noted) (λ bad.
          false_not_true next is_bad stays (is_bad has.pair.noted) (good has.pair has.there)
          (bad_alike has.pair.noted p.noted has.alike bad))

      by_cover : Has pairs (source_run file program schedule) (source_history file program schedule)
          ⊎ IsBefore file program k schedule → is_bad (fold next first (source_history file program schedule)) ≡ false
      by_cover (inl has) = good_one (noticed_of first next file program schedule) has.one
      by_cover (inr b) =
          good_early first next file program is_bad stays k schedule b
          (good_one (noticed_of first next file program (replicate k 0)) search.root)
