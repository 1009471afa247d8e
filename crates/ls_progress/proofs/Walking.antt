-- Steps along edges of the graph of a program's states.
use Rattle.std.proofs.Common.{◌≡◌, ◌⊎◌, inl, inr, ℕ, zero, suc, ◌≤◌, Bool, true, false, List, [], ◌∷◌, Option}
use Rattle.std.proofs.Common.{Some, fold}
use Rattle.std.proofs.Common.{refl, sym, ap, ◌∙◌, subst, arith}
use Rattle.std.specs.Prelude.{not, nat_eq, ◌||◌, slice_get, if◌then◌else◌}
use Rattle.std.proofs.lemmas.List.Sums.{fold-append}
use Rattle.ls_checked.specs.CheckedTree.{File}
use Rattle.ls_graph.specs.Graph.{AreEdges}
use Rattle.ls_graph.specs.Walks.{Walks, actors_of}
use Rattle.ls_graph.specs.declared.closing.Edge.{Edge}
use Rattle.ls_graph.proofs.Lists.{some_is}
use Rattle.ls_meaning.specs.declared.step.Did.{Did}
use Rattle.ls_meaning.specs.declared.step.Did.TheVariants as did
use Rattle.ls_meaning.specs.Still.{IsActing}
use Rattle.ls_search.specs.Objects as objects
use Rattle.ls_search_laws.specs.Configuration.{Configuration, renamed_did, stride}
use Rattle.ls_search_laws.specs.Stepping.{events_of}
use Rattle.ls_search_laws.proofs.Renamed.{events_other}
use Rattle.ls_progress_laws.specs.Laws.{IsOther}
use Rattle.ls_progress_laws.specs.Progress.{Kind, counted, own, pending_after}
use Rattle.ls_progress_laws.specs.Strides.{ActsAlong, AreWithin, end, events_along, own_strides}
use Rattle.ls_progress_laws.proofs.Others.{acting_before, counted_other, other_after, other_both, other_stride}
use Rattle.ls_progress_laws.proofs.Others.{silent_before, silent_other}
use Rattle.ls_progress_laws.proofs.Others.{waits_before}
use Rattle.ls_progress_laws.proofs.Pending.{pending_renamed}
use Rattle.ls_progress.specs.Cycles.{Acts, AreKept, own_in}
use Rattle.ls_progress.specs.Kinds.{is_kept, is_own}
use Rattle.ls_progress.specs.Labels.{AreLabels, label_after, label_at}
use Rattle.ls_progress.specs.Sorts.{is_silent, sort_at}
use Rattle.ls_progress.specs.Steps.{StepsTo}
use Rattle.ls_progress.proofs.Sorted.{Sorted, sorted}

pub as_other : (c d : Configuration) → objects.IsOther c d → IsOther c d
as_other c d h = record { names = h.names; renaming = h.renaming; same = h.same }

-- with a step that is kept no call begins or ends that mustn't
pub kept_may : (kind : Kind) (e : Edge) → is_kept kind e ≡ true → kind.may e.actor ≡ true
kept_may kind e kept = by (kind.may e.actor) refl kept
  where
    by : (b : Bool) → kind.may e.actor ≡ b →
        (if not b then false else is_silent (sort_at e.mark) || not (kind.quiet e.actor)) ≡ true →
        kind.may e.actor ≡ true
    by true is h = is
    by false is h = absurd (cc)

pub kept_silent : (kind : Kind) (e : Edge) → is_kept kind e ≡ true → kind.quiet e.actor ≡ true →
    is_silent (sort_at e.mark) ≡ true
kept_silent kind e kept quiet = by (kind.may e.actor) (is_silent (sort_at e.mark)) (kind.quiet e.actor) refl quiet kept
  where
    by : (m s q : Bool) → is_silent (sort_at e.mark) ≡ s → q ≡ true → (if not m then false else s || not q) ≡ true →
        is_silent (sort_at e.mark) ≡ true
    by m true q is on h = is
    by true false true is on h = absurd (cc)
    by true false false is on h = absurd (cc)
    by false false q is on h = absurd (cc)

pub not_kept : (kind : Kind) (e : Edge) → is_kept kind e ≡ false → kind.may e.actor ≡ true →
    (kind.quiet e.actor ≡ true) × (is_silent (sort_at e.mark) ≡ false)
not_kept kind e kept may = by (kind.may e.actor) (is_silent (sort_at e.mark)) (kind.quiet e.actor) may refl refl kept
  where
    by : (m s q : Bool) → m ≡ true → is_silent (sort_at e.mark) ≡ s → kind.quiet e.actor ≡ q →
        (if not m then false else s || not q) ≡ false →
        (kind.quiet e.actor ≡ true) × (is_silent (sort_at e.mark) ≡ false)
    by true false true on s q h = (q, s)
    by true true q on s is h = absurd (cc)
    by true false false on s q h = absurd (cc)
    by false s q on is h k = absurd (cc)

acting_other : (names : ℕ → ℕ) (d : Did) → IsActing d → IsActing (renamed_did names d)
acting_other names (did.Acted a x) acts = tt
acting_other names did.Waits acts = acts
acting_other names did.Idle acts = acts

module _ (file : File) (states : List Configuration) (edges : List Edge) (led : AreEdges (StepsTo file) states edges)
  where
    -- ---- one edge

    -- from any state that stands for the node from which the edge leads
    pub record Along (e : Edge) (d : Configuration) : Type 0 where
      pub one : Configuration
      pub here : slice_get states e.to ≡ Some one
      pub other : IsOther one (stride file d e.actor).after
      pub sort : Sorted (stride file d e.actor).did (sort_at e.mark)

    same_sort : (kind : Kind) (c d : Configuration) (h : IsOther c d) (u : ℕ) (s : _) →
        Sorted (stride file c u).did s →
        Sorted (stride file d u).did s
    same_sort kind c d h u s is =
        let go = other_stride kind file c d h u in
        record {
          pends = λ v t now.
              ap (λ x. fold (pending_after t) now (events_of v x)) go.did
              ∙ ap (fold (pending_after t) now) (events_other h.names v (stride file c u).did)
              ∙ pending_renamed t h.names now (events_of v (stride file c u).did)
              ∙ is.pends v t now;
          silent = λ on v. ap (events_of v) go.did ∙ silent_other h.names v (stride file c u).did (is.silent on v);
          loud = λ off v none. is.loud off v (silent_before h.names v (stride file c u).did
              (ap (events_of v) (sym go.did) ∙ none));
          counts = ap counted go.did ∙ counted_other h.names (stride file c u).did ∙ is.counts;
          waits = λ e. is.waits (waits_before h.names (stride file c u).did (sym go.did ∙ e));
          acts = λ on. subst IsActing (sym go.did) (acting_other h.names (stride file c u).did (is.acts on));
          goes = λ on. is.goes (acting_before h.names (stride file c u).did (subst IsActing go.did on));
        }

    pub along : (kind : Kind) (i : ℕ) (e : Edge) → slice_get edges i ≡ Some e → (c d : Configuration) →
        slice_get states e.from ≡ Some c →
        IsOther c d →
        Along e d
    along kind i e here c d from h =
        let is = led i e here in
        let same : is.one ≡ c = some_is (sym is.here ∙ from) in
        let steps : StepsTo file c e.actor e.mark is.other =
        subst (λ k. StepsTo file k e.actor e.mark is.other) same is.leads in
        record {
          one = is.other;
          here = is.there;
          other = other_both is.other (stride file c e.actor).after (stride file d e.actor).after
              (as_other is.other (stride file c e.actor).after steps.other) (other_after kind file c d h e.actor);
          sort = same_sort kind c d h e.actor (sort_at e.mark)
              (sorted (stride file c e.actor).did (sort_at e.mark) steps.sort);
        }

    -- ---- a walk

    module _ (kind : Kind) where
      -- where a walk leads to
      pub record Walked (to : ℕ) (d : Configuration) (path : List Edge) : Type 0 where
        pub one : Configuration
        pub here : slice_get states to ≡ Some one
        pub other : IsOther one (end file d (actors_of path))
        pub within : AreKept kind path → AreWithin kind file d (actors_of path)
        pub own : own_in kind.thread path ≤ own_strides kind file d (actors_of path)

      own_here : (e : Edge) (d : Configuration) → counted (stride file d e.actor).did ≡ 1 →
          (if is_own kind.thread e then 1 else 0) ≤ own kind e.actor (stride file d e.actor).did
      own_here e d one = by (nat_eq e.actor kind.thread)
        where
          by : (b : Bool) → (if b then 1 else 0) ≤ (if b then counted (stride file d e.actor).did else 0)
          by true = omega (arith, one)
          by false = omega arith

      pub walked : (path : List Edge) (at to : ℕ) (c d : Configuration) → Walks edges at path to →
          slice_get states at ≡ Some c →
          IsOther c d →
          Walked to d path
      walked [] at to c d w here h = record {
        one = c;
        here = subst (λ n. slice_get states n ≡ Some c) w here;
        other = h;
        within = λ kept. tt;
        own = omega arith;
      }
      walked (e ∷ path) at to c d w here h =
          let i = w.0 in
          let a = along kind i.0 e i.1 c d (subst (λ n. slice_get states n ≡ Some c) (sym w.1) here) h in
          let rest = walked path e.to to a.one (stride file d e.actor).after w.2 a.here a.other in
          let mine = own_here e d a.sort.counts in
          let others = rest.own in
          record {
            one = rest.one;
            here = rest.here;
            other = rest.other;
            within = λ kept. (
              kept_may kind e kept.0,
              λ quiet. a.sort.silent (kept_silent kind e kept.0 quiet) e.actor,
              rest.within kept.1,
            );
            own = omega (arith, mine, others);
          }

    -- ---- the call that is pending

    module _ (kind : Kind) (labels : List (Option ℕ)) (labelled : AreLabels kind.thread edges labels) where
      pub labels_along : (path : List Edge) (at to : ℕ) (c d : Configuration) → Walks edges at path to →
          slice_get states at ≡ Some c →
          IsOther c d →
          label_at labels to ≡
          fold (pending_after kind.thread) (label_at labels at) (events_along file d (actors_of path))
      labels_along [] at to c d w here h = ap (label_at labels) (sym w)
      labels_along (e ∷ path) at to c d w here h =
          let i = w.0 in
          let a = along kind i.0 e i.1 c d (subst (λ n. slice_get states n ≡ Some c) (sym w.1) here) h in
          let u = e.actor in
          let now : Option ℕ = label_at labels at in
          let later = events_along file (stride file d u).after (actors_of path) in
          let one : label_at labels e.to ≡ fold (pending_after kind.thread) now (events_of u (stride file d u).did) =
          labelled.each i.0 e i.1
          ∙ ap (λ n. label_after kind.thread e (label_at labels n)) w.1
          ∙ sym (a.sort.pends u kind.thread now) in
          labels_along path e.to to a.one (stride file d u).after w.2 a.here a.other
          ∙ ap (λ m. fold (pending_after kind.thread) m later) one
          ∙ sym (fold-append (pending_after kind.thread) now (events_of u (stride file d u).did) later)

    -- ---- a thread that acts

    pub acts_along : (kind : Kind) (path : List Edge) (at to : ℕ) (c d : Configuration) → Walks edges at path to →
        slice_get states at ≡ Some c →
        IsOther c d →
        (i : ℕ) (g : Edge) → slice_get path i ≡ Some g →
        Acts g →
        ActsAlong file d (actors_of path) g.actor
    acts_along kind [] at to c d w here h i g there acts = absurd (cc)
    acts_along kind (e ∷ path) at to c d w here h zero g there acts =
        let k = w.0 in
        let a = along kind k.0 e k.1 c d (subst (λ n. slice_get states n ≡ Some c) (sym w.1) here) h in
        let same : e ≡ g = some_is there in
        inl (ap (λ (x : Edge). x.actor) same, a.sort.acts (subst Acts (sym same) acts))
    acts_along kind (e ∷ path) at to c d w here h (suc i) g there acts =
        let k = w.0 in
        let a = along kind k.0 e k.1 c d (subst (λ n. slice_get states n ≡ Some c) (sym w.1) here) h in
        inr (acts_along kind path e.to to a.one (stride file d e.actor).after w.2 a.here a.other i g there acts)
