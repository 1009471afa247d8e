-- What a row tells of its schedule.
use Rattle.std.proofs.Common.{◌≡◌, ◌≢◌, ◌⊎◌, inl, inr, ℕ, ◌<◌, ◌≤◌, Bool, true, false, List, [], ◌++◌}
use Rattle.std.proofs.Common.{length, map, Option, Some}
use Rattle.std.proofs.Common.{None, refl, sym, ap, ◌∙◌, subst, arith, replicate, get_or}
use Rattle.std.specs.Prelude.{slice_get}
use Rattle.std.proofs.lemmas.Bool.{cases_lt}
use Rattle.std.proofs.lemmas.Option.{get_or_from_slice_get, slice_get_past}
use Rattle.ls_events.specs.declared.event.Event.{Event}
use Rattle.ls_checked.specs.CheckedTree.{File}
use Rattle.ls_checked.specs.CheckedProgram.{Program}
use Rattle.ls_meaning.specs.declared.step.Did.{Did}
use Rattle.ls_meaning.specs.declared.step.Did.TheVariants as did
use Rattle.ls_meaning.specs.Runs.{source_history, source_run, step}
use Rattle.ls_meaning.specs.Still.{IsActing, IsStill}
use Rattle.ls_search_laws.specs.Configuration.{Stride, renamed_did, stride}
use Rattle.ls_search_laws.specs.Histories.{one_more}
use Rattle.ls_search_laws.specs.Noticing.{Noticed, noticed_of}
use Rattle.ls_search_laws.specs.Stepping.{SetsUp}
use Rattle.ls_search_laws.proofs.Renamed.{step_stride, stride_other}
use Rattle.ls_search_laws.proofs.Telling.{long_of_all, tells_truth}
use Rattle.ls_transitions.specs.Tables.{Table}
use Rattle.ls_search.specs.declared.places.Node.{Node}
use Rattle.ls_search.specs.declared.places.Seen.{Seen}
use Rattle.ls_search.specs.Listed.{AreSteps, paths_of}
use Rattle.ls_search.specs.Searched.{AreExpanded, IsExpanded, IsLike, IsSound, noticed_at, pairs_at}
use Rattle.ls_search.proofs.Pairs.{map_there}
use Rattle.ls_search.proofs.Strides.{missing_stride}
use Rattle.ls_search.specs.Nameless.{nameless_next}
use Rattle.ls_search.proofs.Judging.{noted_is}
use Rattle.ls_search_laws.proofs.Acting.{setup_acts}
use Rattle.ls_source_rows.proofs.Reached.{Leads, acting_renamed, all_act, leads}
use Rattle.ls_source_rows.proofs.Whole.{folded}
use Rattle.ls_source_rows.specs.Listed.{IsRowOf, ending_by, ending_of}
use Rattle.ls_source_rows.specs.Rows.{ActAll, EndsAs, IsRow, schedule_of}
use Rattle.ls_source_rows.specs.declared.rows.Row.{Row}

-- ---- steps under other names

still_renamed : (names : ℕ → ℕ) (d : Did) → IsStill d → IsStill (renamed_did names d)
still_renamed names (did.Acted action answer) still = absurd still
still_renamed names did.Waits still = tt
still_renamed names did.Idle still = tt

waits_before : (names : ℕ → ℕ) (d : Did) → renamed_did names d ≡ did.Waits → d ≡ did.Waits
waits_before names (did.Acted action answer) e = cc
waits_before names did.Waits e = refl
waits_before names did.Idle e = cc

idle_still : (d : Did) → d ≡ did.Idle → IsStill d
idle_still d e = subst IsStill (sym e) tt

idle_not_waits : (d : Did) → d ≡ did.Idle → d ≡ did.Waits → ⊥
idle_not_waits d e f = cc

abbrev First : Option (List Event)
First = Some []

abbrev Next : Option (List Event) → Event → Option (List Event)
Next = nameless_next one_more

module _ (file : File) (program : Program) (k : ℕ) (up : SetsUp file program k) (t : Table)
    (histories : List (List Event)) (nodes : List Node)
    (sound : IsSound First Next file program (length program.threads) t (map Some histories) nodes)
    (steps : AreSteps file (pairs_at First t (map Some histories) nodes) nodes)
    (begins : slice_get (pairs_at First t (map Some histories) nodes) 0 ≡
    Some (noticed_of First Next file program (replicate k 0)))
    (at : ℕ) (n : Node) (n_is : slice_get nodes at ≡ Some n) where
  abbrev schedule : List ℕ
  schedule = replicate k 0 ++ get_or (paths_of nodes) at []

  abbrev there : Noticed (Option (List Event))
  there = noticed_at First t (map Some histories) n.place

  led : Leads First Next file program (length program.threads) t (map Some histories) nodes sound steps
      (noticed_of First Next file program (replicate k 0)) begins at there
  led =
      leads First Next file program (length program.threads) t (map Some histories) nodes sound steps
      (noticed_of First Next file program (replicate k 0)) begins at n n_is

  -- the state is that of the schedule, but for names of objects
  is_of : IsLike there (noticed_of First Next file program schedule)
  is_of =
      subst (IsLike there)
      (tells_truth First Next file program (replicate k 0) (get_or (paths_of nodes) at []))
      led.to

  pub acts_all : ActAll file program (replicate k 0 ++ get_or (paths_of nodes) at [])
  acts_all =
      all_act First Next file program (replicate k 0) (get_or (paths_of nodes) at []) (setup_acts file program k up)
      led.acts

  pub history_is : (h : List Event) → slice_get histories n.place.noted ≡ Some h →
      h ≡ source_history file program (replicate k 0 ++ get_or (paths_of nodes) at [])
  history_is h e =
      let noted : there.noted ≡ Some h =
      get_or_from_slice_get (map Some histories) n.place.noted (Some h) First
      (map_there Some histories n.place.noted h e)
      in
      sym (noted_is one_more [] h (source_history file program schedule) (is_of.noted ∙ noted))
      ∙ folded [] (source_history file program schedule)

  pair_here : slice_get (pairs_at First t (map Some histories) nodes) at ≡ Some there
  pair_here = map_there (λ (m : Node). noticed_at First t (map Some histories) m.place) nodes at n n_is

  -- a step after the schedule is one of the state, but for names of objects
  same_did : (u : ℕ) →
      (step file program (source_run file program schedule) u).did ≡
      renamed_did is_of.other.names (stride file there.configuration u).did
  same_did u =
      (step_stride file program (source_run file program schedule) (long_of_all file program schedule) u).0
      ∙ (stride_other file is_of.other.names is_of.other.renaming there.configuration
      (noticed_of First Next file program schedule).configuration is_of.other.same u).did

  beyond : (u : ℕ) → length program.threads ≤ u → (stride file there.configuration u).did ≡ did.Idle
  beyond u past =
      let many : length n.place.works.items ≤ u = omega (arith, past, (sound.are at n n_is).width) in
      ap (λ (s : Stride). s.did) (missing_stride file t n.place.store n.place.works.items u
      (slice_get_past n.place.works.items u many))

  module _ (s : Seen)
      (h : IsExpanded First Next file program (pairs_at First t (map Some histories) nodes) (length program.threads)
      (noticed_at First t (map Some histories) n.place) s) where
    is_over : s.acts ≡ false → (u : ℕ) → IsStill (step file program (source_run file program schedule) u).did
    is_over still u =
        subst IsStill (sym (same_did u))
        (still_renamed is_of.other.names (stride file there.configuration u).did
        (by_thread (cases_lt u (length program.threads))))
      where
        by_thread : (u < length program.threads) ⊎ (length program.threads ≤ u) →
            IsStill (stride file there.configuration u).did
        by_thread (inl less) = h.still still u less
        by_thread (inr past) = idle_still (stride file there.configuration u).did (beyond u past)

    none_waits : s.waits ≡ false → (u : ℕ) →
        (step file program (source_run file program schedule) u).did ≢ did.Waits
    none_waits free u waits =
        by_thread (cases_lt u (length program.threads))
        (waits_before is_of.other.names (stride file there.configuration u).did (sym (same_did u) ∙ waits))
      where
        by_thread : (u < length program.threads) ⊎ (length program.threads ≤ u) →
            (stride file there.configuration u).did ≡ did.Waits → ⊥
        by_thread (inl less) w = h.free free u less w
        by_thread (inr past) w = idle_not_waits (stride file there.configuration u).did (beyond u past) w

    ends_by : (acts waits : Bool) → s.acts ≡ acts → s.waits ≡ waits →
        EndsAs file program schedule (ending_by acts waits)
    ends_by true waits a w =
        let u = h.acting a in (
          u.0,
          subst IsActing (sym (same_did u.0))
              (acting_renamed is_of.other.names (stride file there.configuration u.0).did u.2),
        )
    ends_by false true a w =
        let u = h.waiting w in
        record {
          over = is_over a;
          thread = u.0;
          waits = same_did u.0 ∙ ap (renamed_did is_of.other.names) u.2;
        }
    ends_by false false a w = record { over = is_over a; free = none_waits w }

  module _ (seen : List Seen)
      (expanded : AreExpanded First Next file program (pairs_at First t (map Some histories) nodes)
      (length program.threads) seen) where
    pub ends_as : (o : Option Seen) → slice_get seen at ≡ o → EndsAs file program schedule (ending_of o)
    ends_as None e = tt
    ends_as (Some s) e = ends_by s (expanded at there s pair_here e) s.acts s.waits refl refl

pub row_is : (file : File) (program : Program) (k : ℕ) → SetsUp file program k → (t : Table)
    (histories : List (List Event)) (nodes : List Node) →
    IsSound First Next file program (length program.threads) t (map Some histories) nodes →
    AreSteps file (pairs_at First t (map Some histories) nodes) nodes →
    slice_get (pairs_at First t (map Some histories) nodes) 0 ≡
    Some (noticed_of First Next file program (replicate k 0)) → (seen : List Seen) →
    AreExpanded First Next file program (pairs_at First t (map Some histories) nodes) (length program.threads) seen →
    (at : ℕ) (r : Row) → IsRowOf histories nodes seen at r → IsRow file program k r
row_is file program k up t histories nodes sound steps begins seen expanded at r h =
    let same : replicate k 0 ++ get_or (paths_of nodes) at [] ≡ schedule_of k r =
    ap (λ p. replicate k 0 ++ p) (sym h.path) in
    record {
      history =
          history_is file program k up t histories nodes sound steps begins at h.node h.here r.history.items h.history
          ∙ ap (source_history file program) same;
      acts = subst (ActAll file program) same
          (acts_all file program k up t histories nodes sound steps begins at h.node h.here);
      ends = subst (λ ts. EndsAs file program ts r.ending) same
          (subst (EndsAs file program (replicate k 0 ++ get_or (paths_of nodes) at [])) (sym h.ending)
          (ends_as file program k up t histories nodes sound steps begins at h.node h.here seen expanded
          (slice_get seen at) refl));
    }
