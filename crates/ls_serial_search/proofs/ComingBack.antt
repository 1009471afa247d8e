-- A thread that comes back to where it was within a call: the call never ends.
use Rattle.std.proofs.Common.{◌≡◌, ◌⊎◌, inl, inr, ℕ, zero, suc, ◌+◌, ◌-◌, ◌<◌, ◌≤◌, List, [], ◌∷◌, ◌++◌, map}
use Rattle.std.proofs.Common.{replicate, subst, sym, ap, ◌∙◌, arith, append-nil, slice_get}
use Rattle.std.proofs.lemmas.Bool.{cases_lt}
use Rattle.ls_events.specs.declared.event.Event.{Event}
use Rattle.ls_checked.specs.CheckedTree.{File}
use Rattle.ls_checked.specs.CheckedProgram.{Program}
use Rattle.ls_meaning.specs.Course.{Answers}
use Rattle.ls_meaning.specs.Runs.{answers_of, source_history, source_run, step}
use Rattle.ls_meaning.specs.Still.{IsActing}
use Rattle.ls_meaning.specs.Threads.{next}
use Rattle.ls_search_laws.specs.Configuration.{Configuration, configuration_of, stride}
use Rattle.ls_search_laws.proofs.Renamed.{step_stride}
use Rattle.ls_search_laws.proofs.Telling.{long_of_all}
use Rattle.ls_source_store.specs.SeenStore.{store_of}
use Rattle.ls_source.specs.declared.playing.Playing.{Playing}
use Rattle.ls_source.specs.Calls.{Thread}
use Rattle.ls_source.specs.Kept.{means}
use Rattle.ls_source.specs.Progress.{Progress}
use Rattle.ls_source.specs.SeenThread.{thread_of}
use Rattle.ls_source.specs.Stands.{StandsFor}
use Rattle.ls_serial_search.specs.declared.marks.Mark.{Mark}
use Rattle.ls_serial_search.specs.Following.{IsBegun, NeverEnds, called, events_of}
use Rattle.ls_serial_search.specs.Happened.{ActsFor, TurnsOn}
use Rattle.ls_serial_search.specs.Marks.{IsMarkOf}
use Rattle.ls_serial_search.specs.Orders.{progress_at}
use Rattle.ls_serial_search.proofs.Stalls.{begun_at, history_next, never_by, state_next}

-- where nothing is added, there is nothing
nothing_added : (h es : List Event) → h ≡ h ++ es → es ≡ []
nothing_added [] es is = sym is
nothing_added (x ∷ h) es is = nothing_added h es (cc)

module _ (file : File) (program : Program) (schedule : List ℕ) (t : ℕ) where
  abbrev after : ℕ → List ℕ
  after n = schedule ++ replicate n t

  -- where the run stands after so many steps of the thread
  abbrev pub place : ℕ → Configuration
  place n = configuration_of file program (source_run file program (after n))

  next_place : (n : ℕ) → place (suc n) ≡ (stride file (place n) t).after
  next_place n = ap (configuration_of file program) (state_next file program schedule t n) ∙
      (step_stride file program (source_run file program (after n)) (long_of_all file program (after n)) t).1

  abbrev events_at : ℕ → List Event
  events_at n = events_of t (stride file (place n) t).did

  next_history : (n : ℕ) →
      source_history file program (after (suc n)) ≡ source_history file program (after n) ++ events_at n
  next_history n = history_next file program schedule t n
      ∙ ap (λ d. source_history file program (after n) ++ events_of t d)
      (step_stride file program (source_run file program (after n)) (long_of_all file program (after n)) t).0

  module _ (call i j : ℕ) (some : 1 ≤ i) (less : i < j) (back : place i ≡ place j)
      (begun : IsBegun file program schedule t call j) where
    abbrev within : List Event
    within = source_history file program schedule ++ called t call ∷ []

    begun_by : (k : ℕ) → k ≤ j → IsBegun file program schedule t call k
    begun_by k le = record { is = λ m lt. begun.is m (omega (arith, le, lt)) }

    at_most : (k : ℕ) → 1 ≤ k → k ≤ j → source_history file program (after k) ≡ within
    at_most k le up = begun_at file program schedule t call k (begun_by k up) le

    -- nothing comes on the way
    quiet : (k : ℕ) → i ≤ k → k < j → events_at k ≡ []
    quiet k le lt = nothing_added within (events_at k)
        (sym (at_most (suc k) (omega arith) (omega (arith, lt)))
        ∙ next_history k
        ∙ ap (λ h. h ++ events_at k) (at_most k (omega (arith, le, some)) (omega (arith, lt))))

    -- after so many steps more it stands at one of these places
    abbrev IsBack : ℕ → Type 0
    IsBack n = (k : ℕ) × (i ≤ k) × (k < j) × (place (n + i) ≡ place k)

    back_again : (n : ℕ) → IsBack n → IsBack (suc n)
    back_again n r = by_place (cases_lt (suc r.0) j)
      where
        e : suc n + i ≡ suc (n + i)
        e = omega arith

        here : place (suc n + i) ≡ place (suc r.0)
        here = ap place e ∙ next_place (n + i) ∙ ap (λ c. (stride file c t).after) r.3 ∙ sym (next_place r.0)

        by_place : (suc r.0 < j) ⊎ (j ≤ suc r.0) → IsBack (suc n)
        by_place (inl lt) = (suc r.0, omega (arith, r.1), lt, here)
        by_place (inr past) =
            let same : suc r.0 ≡ j = omega (arith, past, r.2) in
            (i, omega arith, less, here ∙ ap place same ∙ sym back)

    comes_back : (n : ℕ) → IsBack n
    comes_back zero = let e : 0 + i ≡ i = omega arith in (i, omega arith, less, ap place e)
    comes_back (suc n) = back_again n (comes_back n)

    stays : (n : ℕ) → source_history file program (after (n + i)) ≡ within
    stays zero =
        let e : 0 + i ≡ i = omega arith in
        ap (λ k. source_history file program (after k)) e ∙ at_most i some (omega (arith, less))
    stays (suc n) =
        let e : suc n + i ≡ suc (n + i) = omega arith in
        let r = comes_back n in
        let none : events_at (n + i) ≡ [] = ap (λ c. events_of t (stride file c t).did) r.3 ∙ quiet r.0 r.1 r.2 in
        ap (λ k. source_history file program (after k)) e ∙ next_history (n + i)
        ∙ ap (λ es. source_history file program (after (n + i)) ++ es) none
        ∙ append-nil (source_history file program (after (n + i))) ∙ stays n

    -- so the call never ends
    turns_never : NeverEnds file program schedule t call
    turns_never = never_by file program schedule t call i (begun_by i (omega (arith, less))) stays

    did_is : (n : ℕ) → (step file program (source_run file program (after n)) t).did ≡ (stride file (place n) t).did
    did_is n = (step_stride file program (source_run file program (after n)) (long_of_all file program (after n)) t).0

    -- and each step acts
    pub turns_on : ActsFor file program schedule t j → TurnsOn file program schedule t call
    turns_on acts = record { never = turns_never; acts = λ n. by_place n (cases_lt n j) }
      where
        by_place : (n : ℕ) → (n < j) ⊎ (j ≤ n) →
            IsActing (step file program (source_run file program (after n)) t).did
        by_place n (inl lt) = acts n lt
        by_place n (inr past) =
            let r = comes_back (n - i) in
            let e : (n - i) + i ≡ n = omega (arith, past, less) in
            subst IsActing (did_is r.0 ∙ ap (λ c. (stride file c t).did) (sym r.3 ∙ ap place e) ∙ sym (did_is n))
            (acts r.0 r.2)

-- ---- marks

-- where a run stands of which this is the mark
abbrev pub place_of : File → Program → Mark → Configuration
place_of file program m = record {
  store = store_of m.store;
  continues = λ u later. means file program (slice_get (map thread_of m.threads.items) u) later;
}

pub marked_place : (file : File) (program : Program) (schedule : List ℕ) (m : Mark) (r : Playing) → IsMarkOf m r →
    StandsFor r (progress_at file program schedule) →
    place_of file program m ≡ configuration_of file program (source_run file program schedule)
marked_place file program schedule m r is at =
    let store_is : store_of m.store ≡ (source_run file program schedule).store =
    is.store ∙ ap (λ (p : Progress). p.state.store) at.shows in
    let goes : (u : ℕ) (later : Answers) →
    means file program (slice_get (map thread_of m.threads.items) u) later ≡
    next file program u (answers_of (source_run file program schedule) u ++ later) = λ u later.
    ap (λ (l : List Thread). means file program (slice_get l u) later) is.threads
    ∙ sym (ap (λ (p : Progress). means p.file p.program (slice_get (map thread_of r.threads.items) u) later) at.shows)
    ∙ at.kept u later
    ∙ ap (λ (p : Progress). next p.file p.program u (answers_of (source_run file program schedule) u ++ later))
    at.shows in
    λ i. record { store = store_is i; continues = λ u later. goes u later i }

-- a mark that was set within a call
pub record IsMarked (file : File) (program : Program) (schedule : List ℕ) (t : ℕ) (m : Mark) (steps : ℕ) : Type 0 where
  pub at : ℕ
  pub some : 1 ≤ at
  pub before : at ≤ steps
  pub is : place_of file program m ≡ place file program schedule t at

module _ (file : File) (program : Program) (schedule : List ℕ) (t : ℕ) where
  pub mark_here : (m : Mark) (r : Playing) (steps : ℕ) → 1 ≤ steps → IsMarkOf m r →
      StandsFor r (progress_at file program (schedule ++ replicate steps t)) →
      IsMarked file program schedule t m steps
  mark_here m r steps some is at = record {
    at = steps;
    some = some;
    before = omega arith;
    is = marked_place file program (schedule ++ replicate steps t) m r is at;
  }

  pub mark_stays : (m : Mark) (steps : ℕ) → IsMarked file program schedule t m steps →
      IsMarked file program schedule t m (steps + 1)
  mark_stays m steps h = record { at = h.at; some = h.some; before = omega (arith, h.before); is = h.is }

  -- a run that stands at the mark again
  pub back_at_mark : (call : ℕ) (m : Mark) (r : Playing) (steps : ℕ) → IsMarked file program schedule t m steps →
      IsMarkOf m r →
      StandsFor r (progress_at file program (schedule ++ replicate (steps + 1) t)) →
      IsBegun file program schedule t call (steps + 1) →
      ActsFor file program schedule t (steps + 1) →
      TurnsOn file program schedule t call
  back_at_mark call m r steps h is at begun =
      turns_on file program schedule t call h.at (steps + 1) h.some (omega (arith, h.before))
      (sym h.is ∙ marked_place file program (schedule ++ replicate (steps + 1) t) m r is at) begun
