-- What a graph of a program's states tells of all its schedules.
use Rattle.std.proofs.Common.{◌≡◌, ◌⊎◌, inl, inr, ◌≤◌, ◌<◌, ℕ, Bool, true, false, List, [], ◌∷◌, ◌++◌, Some, None, fold}
use Rattle.std.proofs.Common.{length, refl, sym, ap}
use Rattle.std.proofs.Common.{◌∙◌, subst, append-nil, append_assoc, Option}
use Rattle.std.proofs.lemmas.List.Sums.{fold-append}
use Rattle.ls_events.specs.declared.event.Event.{Event}
use Rattle.ls_checked.specs.CheckedTree.{File}
use Rattle.ls_checked.specs.CheckedProgram.{Program}
use Rattle.ls_meaning.specs.Runs.{source_history, source_run, step}
use Rattle.ls_meaning.specs.Still.{IsOver, IsStill}
use Rattle.ls_meaning.specs.declared.step.Did.{Did}
use Rattle.ls_meaning.specs.declared.step.Did.TheVariants as did
use Rattle.ls_search_laws.specs.Configuration.{Configuration, configuration_of, renamed_did, stride}
use Rattle.ls_search_laws.specs.Noticing.{Noticed, noticed_after, noticed_of}
use Rattle.ls_search_laws.specs.Stepping.{events_of}
use Rattle.ls_search_laws.proofs.Renamed.{stride_other, step_stride}
use Rattle.ls_search_laws.proofs.Stepping.{one_more}
use Rattle.ls_search_laws.proofs.Telling.{long_of_all}
use Rattle.ls_search.specs.Near.{IsNear, IsNearOrLost, NeverBad, Run, run_after}
use Rattle.ls_search.specs.Nameless.{nameless_bad, nameless_next}
use Rattle.ls_search.specs.Space.{EndsAt, GoesTo, IsEnd, IsLost, Rests}
use Rattle.ls_search.specs.declared.space.Wanted.{Wanted}
use Rattle.ls_search.specs.declared.space.Wanted.TheVariants as wanted
use Rattle.ls_search.specs.Verdicts.{LeavesStuck}
use Rattle.ls_search.proofs.Judging.{nameless_hides, noted_is}
use Rattle.ls_search.proofs.Likeness.{other_same}
use Rattle.ls_search.proofs.Nearness.{covered, Covered, Goes, none_ahead, not_both}
use Rattle.ls_graph.specs.declared.closing.Edge.{Edge}
use Rattle.ls_graph.specs.declared.costs.Counted.{Counted}
use Rattle.ls_graph.specs.Costs.{costs}
use Rattle.ls_graph.specs.Covering.{Covers}
use Rattle.ls_graph.specs.Graph.{IsGraph}
use Rattle.ls_graph.specs.Walks.{IsLeast}
use Rattle.ls_graph.proofs.Runs.{at_least}

still_other : (names : ℕ → ℕ) (d : Did) → IsStill (renamed_did names d) → IsStill d
still_other names (did.Acted a x) still = absurd still
still_other names did.Waits still = still
still_other names did.Idle still = still

waits_other : (names : ℕ → ℕ) (d : Did) → renamed_did names d ≡ did.Waits → d ≡ did.Waits
waits_other names (did.Acted a x) is = cc
waits_other names did.Waits is = refl
waits_other names did.Idle is = cc

-- it ends as is asked: nothing is looked for, or whatever threads do, or no thread acts after it and one waits
abbrev pub Leaves : Wanted → File → Program → List ℕ → Type 0
Leaves wanted.Nothing file program schedule = ⊥
Leaves wanted.Bad file program schedule = Unit {0}
Leaves wanted.Stuck file program schedule = LeavesStuck file program schedule

module _ (file : File) (program : Program) where
  abbrev pub run_of : List ℕ → Run
  run_of s = record { state = source_run file program s; history = source_history file program s }

  step_on : (s : List ℕ) (u : ℕ) → run_after file program (run_of s) u ≡ run_of (s ++ u ∷ [])
  step_on s u =
      let more = one_more file program s u in
      λ i. record { state = sym more.state i; history = sym more.history i }

  runs_on : (us s : List ℕ) → fold (run_after file program) (run_of s) us ≡ run_of (s ++ us)
  runs_on [] s = ap run_of (sym (append-nil s))
  runs_on (u ∷ us) s =
      ap (λ r. fold (run_after file program) r us) (step_on s u)
      ∙ runs_on us (s ++ u ∷ [])
      ∙ ap run_of (append_assoc s (u ∷ []) us)

  -- nothing is looked for, or no thread of a run acts and one waits if that is asked
  abbrev EndsRun : Wanted → Run → Type 0
  EndsRun wanted.Nothing r = ⊥
  EndsRun wanted.Bad r = Unit {0}
  EndsRun wanted.Stuck r = IsOver file program r.state × ((t : ℕ) × ((step file program r.state t).did ≡ did.Waits))

  module _ {S N : Type 0} (first : S) (next : S → Event → S) (is_bad : S → Bool) (stands : N → S) (lost : Option N)
      (w : Wanted) where
    abbrev Names : N → Option S
    Names n = Some (stands n)

    abbrev Next : Option S → Event → Option S
    Next = nameless_next next

    abbrev Near : Noticed (Option S) → Run → Type 0
    Near = IsNearOrLost first next is_bad file program

    -- the run's history is bad, and it ends as is asked
    abbrev Bad : Run → Type 0
    Bad r = (is_bad (fold next first r.history) ≡ true) × EndsRun w r

    lost_on : (r : Run) (t : ℕ) → NeverBad next is_bad (fold next first r.history) →
        NeverBad next is_bad (fold next first (run_after file program r t).history)
    lost_on r t never h =
        let es = events_of t (step file program r.state t).did in
        ap (λ m. is_bad (fold next m h)) (fold-append next first r.history es)
        ∙ ap is_bad (sym (fold-append next (fold next first r.history) es h)) ∙ never (es ++ h)

    lost_there : (n : N) (m : Option S) (h : List Event) → Names n ≡ m → m ≡ fold Next (Some first) h →
        stands n ≡ fold next first h
    lost_there n m h is noted = sym (noted_is next first (stands n) h (sym noted ∙ sym is))

    module _ (gone : (n : N) → lost ≡ Some n → NeverBad next is_bad (stands n)) where
      rest_lost : (o : Option N) → lost ≡ o → (m : Option S) (h : List Event) → IsLost Names o m →
          m ≡ fold Next (Some first) h →
          NeverBad next is_bad (fold next first h)
      rest_lost None same m h is noted = absurd is
      rest_lost (Some n) same m h is noted =
          subst (NeverBad next is_bad) (lost_there n m h is noted) (gone n same)

      covers_step : (q : Noticed (Option S)) (r : Run) (t : ℕ) → Near q r →
          Near q (run_after file program r t)
          ⊎ ((t < length program.threads)
          × (Rests (Some first) Next file program Names lost q t → Near q (run_after file program r t))
          × ((m : ℕ) (q' : Noticed (Option S)) → GoesTo (Some first) Next file program q t m q' →
          Near q' (run_after file program r t)))
      covers_step q r t (inr never) = inl (inr (lost_on r t never))
      covers_step q r t (inl near) =
          by_case (covered (Some first) Next (nameless_hides next) file program q r t near)
        where
          by_rest : (go : Goes (Some first) Next (nameless_hides next) file program q r t) →
              Rests (Some first) Next file program Names lost q t →
              Near q (run_after file program r t)
          by_rest go (inl still) = absurd (not_both (stride file q.configuration t).did go.acts still)
          by_rest go (inr is) =
              inr (rest_lost lost refl (noticed_after (Some first) Next file program q t).noted
              (run_after file program r t).history is go.noted)

          by_case : Covered (Some first) Next (nameless_hides next) file program q r t →
              Near q (run_after file program r t)
              ⊎ ((t < length program.threads)
              × (Rests (Some first) Next file program Names lost q t → Near q (run_after file program r t))
              × ((m : ℕ) (q' : Noticed (Option S)) → GoesTo (Some first) Next file program q t m q' →
              Near q' (run_after file program r t)))
          by_case (inl still) = inl (inl still)
          by_case (inr go) = inr (go.within, by_rest go, λ m q' to. inl (go.near m q' to))

      covers : Covers (Rests (Some first) Next file program Names lost) (GoesTo (Some first) Next file program) Near
          (run_after file program) (length program.threads)
      covers = record { step = covers_step }

      stuck_there : (q : Noticed (Option S)) (r : Run) → IsNear (Some first) Next file program q r → (w : Wanted) →
          EndsRun w r →
          EndsAt w file q.configuration
      stuck_there q r near wanted.Nothing ends = ends
      stuck_there q r near wanted.Bad ends = tt
      stuck_there q r near wanted.Stuck ends =
          let ahead = none_ahead (Some first) Next (nameless_hides next) file program q r near ends.0 in
          let told : (t : ℕ) → (step file program r.state t).did ≡
          renamed_did near.names (stride file q.configuration t).did =
          λ t. (step_stride file program r.state near.long t).0
          ∙ ap (λ (k : Configuration). (stride file k t).did) ahead
          ∙ (stride_other file near.names near.renaming q.configuration near.last near.same t).did in
          record {
            still = λ t. still_other near.names (stride file q.configuration t).did (subst IsStill (told t) (ends.0 t));
            thread = ends.1.0;
            waits = waits_other near.names (stride file q.configuration ends.1.0).did (sym (told ends.1.0) ∙ ends.1.1);
          }

      ends : (q : Noticed (Option S)) (r : Run) → Near q r → Bad r → IsEnd Names (nameless_bad is_bad) w file q
      ends q r (inr never) (bad, end) = absurd (no_true (sym bad ∙ never []))
        where
          no_true : true ≡ false → ⊥
          no_true h = cc
      ends q r (inl near) (bad, end) = record {
        bad = λ n is.
            ap (nameless_bad is_bad) (sym is) ∙ ap is_bad (lost_there n q.noted r.history is near.noted) ∙ bad;
        ends = stuck_there q r near w end;
      }

      near_start : IsNear (Some first) Next file program (noticed_of (Some first) Next file program []) (run_of [])
      near_start = record {
        long = long_of_all file program [];
        threads = [];
        last = configuration_of file program (source_run file program []);
        leads = refl;
        names = (other_same (configuration_of file program (source_run file program []))).names;
        renaming = (other_same (configuration_of file program (source_run file program []))).renaming;
        same = (other_same (configuration_of file program (source_run file program []))).same;
        noted = refl;
      }

      ends_run : (w : Wanted) (schedule : List ℕ) → Leaves w file program schedule → EndsRun w (run_of schedule)
      ends_run wanted.Nothing schedule left = left
      ends_run wanted.Bad schedule left = tt
      ends_run wanted.Stuck schedule left = (left.over, (left.thread, left.waits))

      -- each schedule whose history is bad, and that ends as is asked, costs as much as the least walk to a node that
      -- wasn't looked at
      pub all_cost : (states : List (Noticed (Option S))) (edges : List Edge) (looked : List Bool) (counted : Counted)
          (least : ℕ) →
          IsGraph (Rests (Some first) Next file program Names lost) (GoesTo (Some first) Next file program)
          (IsEnd Names (nameless_bad is_bad) w file) (length program.threads)
          (noticed_of (Some first) Next file program []) states edges looked →
          IsLeast counted edges (length states) looked least →
          (schedule : List ℕ) → is_bad (fold next first (source_history file program schedule)) ≡ true →
          Leaves w file program schedule →
          least ≤ costs counted 0 schedule
      all_cost states edges looked counted least graph is schedule bad left =
          at_least _ _ _ Near (run_after file program) Bad (length program.threads) covers ends
          (noticed_of (Some first) Next file program []) states edges looked graph counted least (run_of [])
          (inl near_start) is schedule
          (subst Bad (sym (runs_on schedule [])) (bad, ends_run w schedule left))
