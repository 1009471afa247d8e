-- Where an event can come from each state at which a thread acts, threads never turn for ever.
use Rattle.std.proofs.Common.{◌≡◌, inl, inr, ℕ, Bool, List, [], ◌∷◌, ◌++◌, Some, length, map, replicate}
use Rattle.std.proofs.Common.{refl, sym, ap, ◌∙◌, subst, arith, append-nil, append_assoc}
use Rattle.std.specs.Prelude.{slice_get}
use Rattle.std.proofs.lemmas.List.{length-append}
use Rattle.ls_checked.specs.CheckedTree.{File}
use Rattle.ls_checked.specs.CheckedProgram.{Program}
use Rattle.ls_meaning.specs.Renamings.{IsRenaming}
use Rattle.ls_meaning.specs.Runs.{source_history, source_run, step}
use Rattle.ls_meaning.specs.Still.{IsActing}
use Rattle.ls_graph.specs.Graph.{HasEdge, IsEdge, IsGraph, IsWhole}
use Rattle.ls_graph.specs.declared.closing.Edge.{Edge}
use Rattle.ls_graph.specs.declared.costs.Counted.TheVariants.{Steps}
use Rattle.ls_graph.proofs.Lists.{some_is}
use Rattle.ls_graph.proofs.Runs.{none}
use Rattle.ls_search_laws.specs.Configuration.{Configuration, IsRenamed, configuration_of, stride}
use Rattle.ls_search_laws.specs.Noticing.{noticed_of, renamed_event}
use Rattle.ls_search_laws.specs.Search.{LeadsTo}
use Rattle.ls_search_laws.specs.Stepping.{events_of}
use Rattle.ls_search_laws.proofs.Renamed.{events_other, step_stride, stride_other}
use Rattle.ls_search_laws.proofs.Stepping.{one_more}
use Rattle.ls_search_laws.proofs.Telling.{long_of_all}
use Rattle.ls_search.specs.Near.{Run}
use Rattle.ls_search.specs.Searched.{IsOther}
use Rattle.ls_search.specs.Space.{GoesTo}
use Rattle.ls_search.specs.Strides.{at_once}
use Rattle.ls_search.proofs.Covering.{run_of}
use Rattle.ls_spinning.specs.Heard.{EachIsHeard, HeardAlong}
use Rattle.ls_spinning.specs.Mute.{nothing_noted}
use Rattle.ls_spinning.specs.Sounding.{Sounds}
use Rattle.ls_spinning.specs.States.{AreLoud, IsStateGraph, Place}
use Rattle.ls_spinning.specs.Turning.{NeverTurns, TurnsForEver}
use Rattle.ls_spinning.proofs.Covering.{Leading, Near, Resting, after, covers, near_start, runs_on}
use Rattle.ls_spinning.proofs.Staying.{HasOther, edge_here, run_after}

none_before : {A B : Type 0} (f : A → B) (xs : List A) → map f xs ≡ [] → xs ≡ []
none_before f [] e = refl
none_before f (x ∷ xs) e = cc

no_more : {A : Type 0} (xs es : List A) → xs ++ es ≡ xs → es ≡ []
no_more xs [] e = refl
no_more xs (x ∷ es) e =
    let long = length-append xs (x ∷ es) in
    let same = ap length e in
    absurd (omega (arith, long, same))

module _ (file : File) where
  pub sounds_other : (names : ℕ → ℕ) → IsRenaming names → (path : List ℕ) (c d : Configuration) → IsRenamed names c d →
      Sounds file path c →
      Sounds file path d
  sounds_other names is [] c d same h = absurd h
  sounds_other names is (u ∷ path) c d same (inl loud) = inl (λ none.
      loud (none_before (renamed_event names) (events_of u (stride file c u).did)
      (sym (events_other names u (stride file c u).did)
      ∙ sym (ap (events_of u) (stride_other file names is c d same u).did) ∙ none)))
  sounds_other names is (u ∷ path) c d same (inr h) =
      inr (sounds_other names is path (stride file c u).after (stride file d u).after
      (stride_other file names is c d same u).after h)

  -- so it is of what steps at once lead to the configuration
  sounds_ahead : (ts path : List ℕ) (c last : Configuration) → LeadsTo at_once file c ts last → Sounds file path last →
      Sounds file (ts ++ path) c
  sounds_ahead [] path c last leads h = subst (Sounds file path) (sym leads) h
  sounds_ahead (t ∷ ts) path c last leads h = inr (sounds_ahead ts path (stride file c t).after last leads.1 h)

  module _ (program : Program) (states : List Place) (edges : List Edge) (loud : List Bool) (count : ℕ)
      (led : (i : ℕ) (e : Edge) → slice_get edges i ≡ Some e →
      IsEdge (GoesTo tt nothing_noted file program) states e) (marked : AreLoud file states edges count loud) where
    sounds_at : (path : List ℕ) (at : ℕ) (p : Place) → slice_get states at ≡ Some p →
        HeardAlong loud edges at path →
        (steps : List ℕ) × Sounds file steps p.configuration
    sounds_at [] at p here mark =
        let is = marked.only at mark in
        let same : is.0 ≡ p = some_is (sym is.1 ∙ here) in (
          is.2 ∷ [],
          inl (subst (λ (q : Place). events_of is.2 (stride file q.configuration is.2).did ≡ [] → ⊥) same is.3),
        )
    sounds_at (i ∷ path) at p here (e, e_here, from_is, rest) =
        let is : IsEdge (GoesTo tt nothing_noted file program) states e = led i e e_here in
        let so = sounds_at path e.to is.other is.there rest in
        let from : is.one ≡ p = some_is (sym is.here ∙ ap (slice_get states) from_is ∙ here) in
        let go = is.leads.reaches in
        let then : Configuration = (stride file is.one.configuration e.actor).after in
        let steps : List ℕ = replicate e.mark e.actor in (
          e.actor ∷ (steps ++ so.0),
          inr (subst (λ (q : Place). Sounds file (steps ++ so.0) (stride file q.configuration e.actor).after) from
              (sounds_ahead steps so.0 then go.last go.leads
              (sounds_other go.other.names go.other.renaming so.0 is.other.configuration go.last go.other.same so.1))),
        )

module _ (file : File) (program : Program) where
  abbrev pub run_at : List ℕ → Configuration
  run_at schedule = configuration_of file program (source_run file program schedule)

  pub not_silent : (path schedule : List ℕ) → Sounds file path (run_at schedule) →
      ((more : List ℕ) →
      source_history file program (schedule ++ more) ≡ source_history file program schedule) →
      ⊥
  not_silent [] schedule h silent = h
  not_silent (u ∷ path) schedule (inl loud) silent =
      let go = step_stride file program (source_run file program schedule) (long_of_all file program schedule) u in
      loud (ap (events_of u) (sym go.0)
      ∙ no_more (source_history file program schedule)
      (events_of u (step file program (source_run file program schedule) u).did)
      (sym (one_more file program schedule u).history ∙ silent (u ∷ [])))
  not_silent (u ∷ path) schedule (inr h) silent =
      let go = step_stride file program (source_run file program schedule) (long_of_all file program schedule) u in
      not_silent path (schedule ++ u ∷ [])
      (subst (Sounds file path) (sym go.1 ∙ ap (configuration_of file program)
      (sym (one_more file program schedule u).state))
      h)
      (λ more.
      ap (source_history file program) (append_assoc schedule (u ∷ []) more)
      ∙ silent (u ∷ more)
      ∙ sym (silent (u ∷ [])))

  -- steps at once are steps of the run
  pub ahead_run : (ts schedule : List ℕ) (last : Configuration) → LeadsTo at_once file (run_at schedule) ts last →
      run_at (schedule ++ ts) ≡ last
  ahead_run [] schedule last leads = ap run_at (append-nil schedule) ∙ leads
  ahead_run (t ∷ ts) schedule last leads =
      ap run_at (sym (append_assoc schedule (t ∷ []) ts))
      ∙ ahead_run ts (schedule ++ t ∷ []) last
      (subst (λ (k : Configuration). LeadsTo at_once file k ts last) (run_after file program schedule t) leads.1)

  -- what is longer turns too
  pub turns_later : (schedule ts : List ℕ) → TurnsForEver file program schedule → TurnsForEver file program
      (schedule ++ ts)
  turns_later schedule ts h = record {
    acts = λ more.
        subst (λ (l : List ℕ). (t : ℕ) × IsActing (step file program (source_run file program l) t).did)
        (sym (append_assoc schedule ts more)) (h.acts (ts ++ more));
    silent = λ more.
        ap (source_history file program) (append_assoc schedule ts more)
        ∙ h.silent (ts ++ more)
        ∙ sym (h.silent ts);
  }

  -- after the run threads turn for ever
  abbrev Bad : Run → Type 0
  Bad r = (schedule : List ℕ) × (r ≡ run_of file program schedule) × TurnsForEver file program schedule

  module _ (states : List Place) (edges : List Edge) (looked : List Bool)
      (graph : IsStateGraph file program (noticed_of tt nothing_noted file program []) states edges looked)
      (whole : IsWhole (length states) looked) (loud : List Bool) (count : ℕ)
      (marked : AreLoud file states edges count loud) (heard : EachIsHeard loud edges) where
    -- it is none of the states
    abbrev IsNone : Place → Type 0
    IsNone p = (at : ℕ) → slice_get states at ≡ Some p → ⊥

    -- some thread acts after the run, so an event can come
    by_near : (at : ℕ) (q : Place) → slice_get states at ≡ Some q → (before : List ℕ) →
        Near file program q (run_of file program before) →
        TurnsForEver file program before →
        ⊥
    by_near at q here before is turns_before =
        let schedule : List ℕ = before ++ is.threads in
        let turns : TurnsForEver file program schedule = turns_later before is.threads turns_before in
        let has : HasOther states (run_at schedule) = record {
          at = at;
          one = q;
          here = here;
          other = subst (IsOther q.configuration) (sym (ahead_run is.threads before is.last is.leads))
              (record { names = is.names; renaming = is.renaming; same = is.same });
        } in
        let a = turns.acts [] in
        let acts : IsActing (step file program (source_run file program schedule) a.0).did =
        subst (λ (l : List ℕ). IsActing (step file program (source_run file program l) a.0).did)
        (append-nil schedule) a.1 in
        let edge : HasEdge edges at a.0 =
        edge_here file program (noticed_of tt nothing_noted file program []) states edges looked graph whole schedule
        has a.0 acts in
        let path = heard edge.place edge.edge edge.here in
        let so = sounds_at file program states edges loud count graph.led marked path.0 edge.edge.from q
        (ap (slice_get states) edge.from_is ∙ here) path.1 in
        not_silent so.0 schedule
        (sounds_other file has.other.names has.other.renaming so.0 q.configuration (run_at schedule) has.other.same
        so.1) turns.silent

    ends : (q : Place) (r : Run) → Near file program q r → Bad r → IsNone q
    ends q r is (schedule, same, turns) at here = by_near at q here schedule (subst (Near file program q) same is) turns

    open_graph : IsGraph (Resting file program) (Leading file program) IsNone (length program.threads)
        (noticed_of tt nothing_noted file program []) states edges looked
    open_graph = record {
      begins = graph.begins;
      led = graph.led;
      told = λ at done. (
        (graph.told at done).0,
        λ p here. record { no_end = λ no. no at here; told = ((graph.told at done).1 p here).told },
      );
    }

    pub never_turns : NeverTurns file program
    never_turns schedule turns =
        none (Resting file program) (Leading file program) IsNone (Near file program) (after file program) Bad
        (length program.threads) (covers file program) ends
        (noticed_of tt nothing_noted file program []) states edges looked open_graph Steps (run_of file program [])
        (near_start file program) whole schedule (schedule, runs_on file program schedule [], turns)
