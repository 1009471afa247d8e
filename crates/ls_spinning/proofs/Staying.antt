-- From a closed list of states in which threads turn, no event comes.
use Rattle.std.proofs.Common.{◌≡◌, ◌⊎◌, inl, inr, ℕ, zero, suc, ◌+◌, ◌<◌, Bool, List, [], ◌∷◌, ◌++◌, None, Some, length}
use Rattle.std.proofs.Common.{map, replicate, take}
use Rattle.std.proofs.Common.{get_or, refl, sym, ap, ◌∙◌, subst, arith, append-nil, append_assoc}
use Rattle.std.specs.Prelude.{slice_get}
use Rattle.std.proofs.lemmas.Option.{slice_get-get_or}
use Rattle.ls_events.specs.declared.event.Event.{Event}
use Rattle.ls_checked.specs.CheckedTree.{File}
use Rattle.ls_checked.specs.CheckedProgram.{Program}
use Rattle.ls_meaning.specs.declared.step.Did.{Did}
use Rattle.ls_meaning.specs.declared.step.Did.TheVariants as did
use Rattle.ls_meaning.specs.Runs.{State, source_history, source_run, step}
use Rattle.ls_meaning.specs.Still.{IsActing, IsStill}
use Rattle.ls_graph.specs.Found.{HasAny}
use Rattle.ls_graph.specs.Graph.{HasEdge, IsEdge, IsWhole}
use Rattle.ls_graph.specs.declared.closing.Edge.{Edge}
use Rattle.ls_graph.proofs.Lists.{below, some_is}
use Rattle.ls_search_laws.specs.Configuration.{Configuration, IsRenamedStride, configuration_of, renamed_did, stride}
use Rattle.ls_search_laws.specs.Noticing.{renamed_event}
use Rattle.ls_search_laws.specs.Search.{LeadsTo}
use Rattle.ls_search_laws.specs.Stepping.{events_of}
use Rattle.ls_search_laws.proofs.Renamed.{both, both_renaming, events_other, renamed_both, step_stride, stride_other}
use Rattle.ls_search_laws.proofs.Stepping.{acts_within, one_more, still_stays}
use Rattle.ls_search_laws.proofs.Telling.{long_of_all}
use Rattle.ls_search.specs.Runs.{progress_at}
use Rattle.ls_search.specs.Searched.{IsOther}
use Rattle.ls_search.specs.Space.{GoesTo, Rests}
use Rattle.ls_search.specs.Strides.{at_once}
use Rattle.ls_search.proofs.Likeness.{other_same}
use Rattle.ls_search.proofs.Nearness.{not_both}
use Rattle.ls_search.proofs.Progressing.{gone}
use Rattle.ls_source.specs.Progress.{gone_on}
use Rattle.ls_spinning.specs.Mute.{no_note, nothing_noted}
use Rattle.ls_spinning.specs.States.{IsSilent, IsStateGraph, Place}
use Rattle.ls_spinning.specs.Turning.{TurnsForEver}

-- ---- a run, step by step

take_next : {A : Type 0} (xs : List A) (i : ℕ) (x : A) → slice_get xs i ≡ Some x →
    take (suc i) xs ≡ take i xs ++ x ∷ []
take_next [] i x e = absurd (none_not e)
  where
    none_not : slice_get [] i ≡ Some x → ⊥
    none_not h = cc
take_next (y ∷ ys) zero x e = cc
take_next (y ∷ ys) (suc i) x e = ap (λ l. y ∷ l) (take_next ys i x e)

more_by_one : (i : ℕ) → suc i ≡ i + 1
more_by_one i = omega arith

pub gone_next : (file : File) (program : Program) (steps : List ℕ) (i d : ℕ) → i < length steps →
    gone_on (progress_at file program (take i steps)) (get_or steps i d) ≡ progress_at file program (take (i + 1) steps)
gone_next file program steps i d within =
    gone file program (take i steps) (get_or steps i d)
    ∙ ap (progress_at file program) (sym (take_next steps i (get_or steps i d) (slice_get-get_or steps i d within)))
    ∙ ap (λ n. progress_at file program (take n steps)) (more_by_one i)

-- ---- steps under other names

pub acts_before : (names : ℕ → ℕ) (d : Did) → IsActing (renamed_did names d) → IsActing d
acts_before names (did.Acted a x) acts = tt
acts_before names did.Waits acts = acts
acts_before names did.Idle acts = acts

acts_then : (names : ℕ → ℕ) (d : Did) → IsActing d → IsActing (renamed_did names d)
acts_then names (did.Acted a x) acts = tt
acts_then names did.Waits acts = acts
acts_then names did.Idle acts = acts

-- the configuration after one step more
pub run_after : (file : File) (program : Program) (schedule : List ℕ) (t : ℕ) →
    (stride file (configuration_of file program (source_run file program schedule)) t).after ≡
    configuration_of file program (source_run file program (schedule ++ t ∷ []))
run_after file program schedule t =
    sym (step_stride file program (source_run file program schedule) (long_of_all file program schedule) t).1 ∙
    ap (configuration_of file program) (sym (one_more file program schedule t).state)

-- ---- from the list on

-- one of them is this, but for names of objects
pub record HasOther (states : List Place) (c : Configuration) : Type 0 where
  pub at : ℕ
  pub one : Place
  pub here : slice_get states at ≡ Some one
  pub other : IsOther one.configuration c

module _ (file : File) (program : Program) (root : Place) (states : List Place) (edges : List Edge)
    (looked : List Bool) (graph : IsStateGraph file program root states edges looked)
    (whole : IsWhole (length states) looked) where
  -- a thread that acts leads along an edge
  pub edge_at : (at : ℕ) (p : Place) → slice_get states at ≡ Some p → (u : ℕ) → u < length program.threads →
      IsActing (stride file p.configuration u).did →
      HasEdge edges at u
  edge_at at p here u within acts =
      by_told (((graph.told at (whole at (below states at p here))).1 p here).told u within)
    where
      by_told : Rests tt nothing_noted file program no_note None p u ⊎ HasEdge edges at u → HasEdge edges at u
      by_told (inl (inl still)) = absurd (not_both (stride file p.configuration u).did acts still)
      by_told (inl (inr lost)) = absurd lost
      by_told (inr has) = has

  -- where an edge leads
  pub led_by : (at u : ℕ) (p : Place) → slice_get states at ≡ Some p → (has : HasEdge edges at u) →
      (q : Place) × (slice_get states has.edge.to ≡ Some q)
      × GoesTo tt nothing_noted file program p u has.edge.mark q
  led_by at u p here has =
      let e : Edge = has.edge in
      let is : IsEdge (GoesTo tt nothing_noted file program) states e = graph.led has.place has.edge has.here in
      let one : is.one ≡ p = some_is (sym is.here ∙ ap (slice_get states) has.from_is ∙ here) in (
        is.other,
        is.there,
        subst (λ v. GoesTo tt nothing_noted file program p v e.mark is.other) has.actor_is
            (subst (λ x. GoesTo tt nothing_noted file program x e.actor e.mark is.other) one is.leads),
      )

  module _ (schedule : List ℕ)
      (has : HasOther states (configuration_of file program (source_run file program schedule))) where
    abbrev state : State
    state = source_run file program schedule

    abbrev own : Configuration
    own = has.one.configuration

    other : (u : ℕ) → IsRenamedStride has.other.names (stride file own u)
        (stride file (configuration_of file program state) u)
    other u = stride_other file has.other.names has.other.renaming own (configuration_of file program state)
        has.other.same u

    pub did_is : (u : ℕ) → (step file program state u).did ≡ renamed_did has.other.names (stride file own u).did
    did_is u = (step_stride file program state (long_of_all file program schedule) u).0 ∙ (other u).did

    pub acts_there : (u : ℕ) → IsActing (step file program state u).did → IsActing (stride file own u).did
    acts_there u acts = acts_before has.other.names (stride file own u).did (subst IsActing (did_is u) acts)

    pub acts_here : (u : ℕ) → IsActing (stride file own u).did → IsActing (step file program state u).did
    acts_here u acts = subst IsActing (sym (did_is u)) (acts_then has.other.names (stride file own u).did acts)

    -- the edge of a thread that acts
    pub edge_here : (u : ℕ) → IsActing (step file program state u).did → HasEdge edges has.at u
    edge_here u acts =
        edge_at has.at has.one has.here u (acts_within file program state u acts) (acts_there u acts)

    -- where no event comes at the one of the list, none comes here
    silent_here : (t : ℕ) → events_of t (stride file own t).did ≡ [] →
        source_history file program (schedule ++ t ∷ []) ≡ source_history file program schedule
    silent_here t none =
        (one_more file program schedule t).history
        ∙ ap (λ (es : List Event). source_history file program schedule ++ es)
        (ap (events_of t) (did_is t)
        ∙ events_other has.other.names t (stride file own t).did
        ∙ ap (map (renamed_event has.other.names)) none)
        ∙ append-nil (source_history file program schedule)

  -- ---- where no steps are taken at once

  module _ (single : (i : ℕ) (e : Edge) → slice_get edges i ≡ Some e → e.mark ≡ 0) where
    module _ (schedule : List ℕ) (t : ℕ)
        (has : HasOther states (configuration_of file program (source_run file program schedule))) where
      abbrev next : Configuration
      next = configuration_of file program (source_run file program (schedule ++ t ∷ []))

      abbrev here_did : Did
      here_did = (step file program (source_run file program schedule) t).did

      goes_still : IsStill here_did → HasOther states next
      goes_still still =
          subst (HasOther states)
          (ap (configuration_of file program)
          (sym ((one_more file program schedule t).state
          ∙ still_stays file program (source_run file program schedule) t still))) has

      goes_acting : IsActing here_did → HasOther states next
      goes_acting acts =
          let edge : HasEdge edges has.at t = edge_here schedule has t acts in
          let to = led_by has.at t has.one has.here edge in
          let after : Configuration = (stride file has.one.configuration t).after in
          let go = to.2.reaches in
          let same : after ≡ go.last =
          subst (λ n. LeadsTo at_once file after (replicate n t) go.last) (single edge.place edge.edge edge.here)
          go.leads in
          let first : IsOther to.0.configuration after =
          subst (IsOther to.0.configuration) (sym same) go.other in
          let moved = other schedule has t in
          let both_names : IsOther to.0.configuration
          (stride file (configuration_of file program (source_run file program schedule)) t).after = record {
            names = both first.names has.other.names;
            renaming = both_renaming first.names has.other.names first.renaming has.other.renaming;
            same = renamed_both first.names has.other.names to.0.configuration after
                (stride file (configuration_of file program (source_run file program schedule)) t).after first.same
                moved.after;
          } in
          record {
            at = edge.edge.to;
            one = to.0;
            here = to.1;
            other = subst (IsOther to.0.configuration) (run_after file program schedule t) both_names;
          }

      by_did : (d : Did) → here_did ≡ d → HasOther states next
      by_did (did.Acted action answer) e = goes_acting (subst IsActing (sym e) tt)
      by_did did.Waits e = goes_still (subst IsStill (sym e) tt)
      by_did did.Idle e = goes_still (subst IsStill (sym e) tt)

      -- one step more leads to one of the list
      goes : HasOther states next
      goes = by_did here_did refl

    abbrev run_at : List ℕ → Configuration
    run_at schedule = configuration_of file program (source_run file program schedule)

    found_on : (path schedule : List ℕ) → HasOther states (run_at schedule) →
        HasOther states (run_at (schedule ++ path))
    found_on [] schedule h = subst (λ (s : List ℕ). HasOther states (run_at s)) (sym (append-nil schedule)) h
    found_on (t ∷ path) schedule h =
        subst (λ (s : List ℕ). HasOther states (run_at s)) (append_assoc schedule (t ∷ []) path)
        (found_on path (schedule ++ t ∷ []) (goes schedule t h))

    -- ---- and where threads turn at each

    module _ (left : (at : ℕ) → at < length states → HasAny edges at)
        (silent : (i : ℕ) (e : Edge) (p : Place) → slice_get edges i ≡ Some e → slice_get states e.from ≡ Some p →
        IsSilent file p e.actor) where
      some_acts : (schedule : List ℕ) → HasOther states (run_at schedule) →
          (u : ℕ) × IsActing (step file program (source_run file program schedule) u).did
      some_acts schedule has =
          let edge = left has.at (below states has.at has.one has.here) in
          let is : IsEdge (GoesTo tt nothing_noted file program) states edge.1 = graph.led edge.0 edge.1 edge.2 in
          let one : is.one ≡ has.one = some_is (sym is.here ∙ ap (slice_get states) edge.3 ∙ has.here) in (
            edge.1.actor,
            acts_here schedule has edge.1.actor
                (subst (λ (p : Place). IsActing (stride file p.configuration edge.1.actor).did) one is.leads.acts),
          )

      none_there : (schedule : List ℕ) (has : HasOther states (run_at schedule)) (t : ℕ) (d : Did) →
          (stride file has.one.configuration t).did ≡ d →
          events_of t (stride file has.one.configuration t).did ≡ []
      none_there schedule has t (did.Acted action answer) e =
          let acts = acts_here schedule has t (subst IsActing (sym e) tt) in
          let edge : HasEdge edges has.at t = edge_here schedule has t acts in
          subst (IsSilent file has.one) edge.actor_is
          (silent edge.place edge.edge has.one edge.here (ap (slice_get states) edge.from_is ∙ has.here))
      none_there schedule has t did.Waits e = ap (events_of t) e
      none_there schedule has t did.Idle e = ap (events_of t) e

      quiet_on : (path schedule : List ℕ) → HasOther states (run_at schedule) →
          source_history file program (schedule ++ path) ≡ source_history file program schedule
      quiet_on [] schedule h = ap (source_history file program) (append-nil schedule)
      quiet_on (t ∷ path) schedule h =
          ap (source_history file program) (sym (append_assoc schedule (t ∷ []) path))
          ∙ quiet_on path (schedule ++ t ∷ []) (goes schedule t h)
          ∙ silent_here schedule h t (none_there schedule h t (stride file h.one.configuration t).did refl)

      turns_from : (first : List ℕ) → HasOther states (run_at first) → TurnsForEver file program first
      turns_from first has = record {
        acts = λ path. some_acts (first ++ path) (found_on path first has);
        silent = λ path. quiet_on path first has;
      }

-- threads turn after a schedule if they do at each state that it leads to
pub turns_for_ever : (file : File) (program : Program) (schedule : List ℕ) (states : List Place) (edges : List Edge)
    (looked : List Bool) →
    IsStateGraph file program
    (record { configuration = configuration_of file program (source_run file program schedule); noted = tt }) states
    edges looked →
    IsWhole (length states) looked →
    ((i : ℕ) (e : Edge) → slice_get edges i ≡ Some e → e.mark ≡ 0) →
    ((at : ℕ) → at < length states → HasAny edges at) →
    ((i : ℕ) (e : Edge) (p : Place) → slice_get edges i ≡ Some e → slice_get states e.from ≡ Some p →
    IsSilent file p e.actor) →
    TurnsForEver file program schedule
turns_for_ever file program schedule states edges looked graph whole single left silent =
    let c : Configuration = configuration_of file program (source_run file program schedule) in
    let root : Place = record { configuration = c; noted = tt } in
    turns_from file program root states edges looked graph whole single left silent schedule
    (record { at = 0; one = root; here = graph.begins; other = other_same c })
