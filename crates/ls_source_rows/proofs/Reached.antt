-- Paths to states that were found: each step acts, and the schedule leads there.
use Rattle.std.proofs.Common.{◌≡◌, ℕ, zero, suc, ◌+◌, ◌<◌, ◌≤◌, ◌⊎◌, inl, inr, List, [], ◌∷◌, ◌++◌, length}
use Rattle.std.proofs.Common.{map, Some, refl, sym}
use Rattle.std.proofs.Common.{ap, ◌∙◌, subst, arith, get_or, replicate, append_assoc, append-nil}
use Rattle.std.specs.Prelude.{slice_get}
use Rattle.std.specs.List.{fold}
use Rattle.std.proofs.lemmas.Bool.{cases_lt}
use Rattle.std.proofs.lemmas.List.{map-append}
use Rattle.std.proofs.lemmas.List.Sums.{fold-append}
use Rattle.ls_events.specs.declared.value.Value.{Value}
use Rattle.ls_events.specs.declared.event.Event.{Event}
use Rattle.ls_checked.specs.CheckedTree.{File}
use Rattle.ls_checked.specs.CheckedProgram.{Program}
use Rattle.ls_meaning.specs.declared.step.Did.{Did}
use Rattle.ls_meaning.specs.declared.step.Did.TheVariants as did
use Rattle.ls_meaning.specs.Steps.{Entry, trace, traced}
use Rattle.ls_meaning.specs.Runs.{State, source_run, source_step, source_trace, start, step, stepped}
use Rattle.ls_meaning.specs.Still.{IsActing}
use Rattle.ls_search_laws.specs.Configuration.{Configuration, renamed_did, stride}
use Rattle.ls_search_laws.specs.Noticing.{Noticed, noticed_after, noticed_of}
use Rattle.ls_search_laws.specs.Stepping.{SetsUp}
use Rattle.ls_search_laws.proofs.Acting.{acts_more}
use Rattle.ls_search_laws.proofs.Renamed.{step_stride, stride_other}
use Rattle.ls_search_laws.proofs.Stepping.{trace-append}
use Rattle.ls_search_laws.proofs.Telling.{long_of_all, tells_truth}
use Rattle.ls_transitions.specs.Tables.{Table}
use Rattle.ls_transitions.proofs.Keeping.{below, there}
use Rattle.ls_search.specs.declared.places.Node.{Node}
use Rattle.ls_search.specs.Listed.{AreSteps, IsStepOf, paths_of}
use Rattle.ls_search.specs.Searched.{IsAfter, IsLike, IsOther, IsSound, noticed_at, pairs_at}
use Rattle.ls_search.proofs.Expanding.{pairs_length}
use Rattle.ls_search.proofs.Likeness.{like_both, like_fold, like_same}
use Rattle.ls_search.proofs.Pairs.{map_there}
use Rattle.ls_search.proofs.Tracks.{path_none, path_on}
use Rattle.ls_source_rows.specs.Rows.{ActAll}

some_is : {A : Type 0} {x y : A} → Some x ≡ Some y → x ≡ y
some_is h = cc

-- ---- steps under other names

pub acting_renamed : (names : ℕ → ℕ) (d : Did) → IsActing d → IsActing (renamed_did names d)
acting_renamed names (did.Acted action answer) acts = tt
acting_renamed names did.Waits acts = absurd acts
acting_renamed names did.Idle acts = absurd acts

acts_other : (file : File) (c d : Configuration) → IsOther c d → (u : ℕ) → IsActing (stride file c u).did →
    IsActing (stride file d u).did
acts_other file c d h u acts =
    subst IsActing (sym (stride_other file h.names h.renaming c d h.same u).did)
    (acting_renamed h.names (stride file c u).did acts)

-- ---- schedules each of whose steps acts

module _ {S : Type 0} (first : S) (next : S → Event → S) (file : File) (program : Program) where
  -- each thread in turn acts
  abbrev pub ActsAlong : Noticed S → List ℕ → Type 0
  ActsAlong p [] = Unit {0}
  ActsAlong p (t ∷ ts) =
      IsActing (stride file p.configuration t).did × ActsAlong (noticed_after first next file program p t) ts

  -- and one more
  pub along_more : (p : Noticed S) (ts : List ℕ) (t : ℕ) → ActsAlong p ts →
      IsActing (stride file (fold (noticed_after first next file program) p ts).configuration t).did →
      ActsAlong p (ts ++ t ∷ [])
  along_more p [] t h acts = (acts, tt)
  along_more p (u ∷ ts) t h acts = (h.0, along_more (noticed_after first next file program p u) ts t h.1 acts)

  pub all_act : (s ts : List ℕ) → ActAll file program s → ActsAlong (noticed_of first next file program s) ts →
      ActAll file program (s ++ ts)
  all_act s [] all h = subst (ActAll file program) (sym (append-nil s)) all
  all_act s (t ∷ ts) all h =
      let r : State = source_run file program s in
      let acts : IsActing (step file program (source_run file program s) t).did =
      subst IsActing (sym (step_stride file program r (long_of_all file program s) t).0) h.0 in
      let rest : ActsAlong (noticed_of first next file program (s ++ t ∷ [])) ts =
      subst (λ (p : Noticed S). ActsAlong p ts) (tells_truth first next file program s (t ∷ [])) h.1 in
      subst (ActAll file program) (append_assoc s (t ∷ []) ts)
      (all_act (s ++ t ∷ []) ts (acts_more file program s t all acts) rest)

  -- ---- states that were found

  module _ (threads : ℕ) (t : Table) (states : List S) (nodes : List Node)
      (sound : IsSound first next file program threads t states nodes)
      (steps : AreSteps file (pairs_at first t states nodes) nodes) (root : Noticed S)
      (begins : slice_get (pairs_at first t states nodes) 0 ≡ Some root) where
    pub pairs_within : (i : ℕ) (q : Noticed S) → slice_get (pairs_at first t states nodes) i ≡ Some q → i < length nodes
    pairs_within i q e =
        let b = below (pairs_at first t states nodes) i q e in omega (arith, b, pairs_length first t states nodes)

    -- the path leads to the state, but for names of objects, and each of its steps acts
    pub record Leads (at : ℕ) (p : Noticed S) : Type 0 where
      pub to : IsLike p (fold (noticed_after first next file program) root (get_or (paths_of nodes) at []))
      pub acts : ActsAlong root (get_or (paths_of nodes) at [])

    first_leads : (at : ℕ) (n : Node) (p : Noticed S) → slice_get nodes at ≡ Some n →
        slice_get (pairs_at first t states nodes) at ≡ Some p →
        at ≡ 0 →
        Leads at p
    first_leads at n p n_is p_is zero_is =
        let none : get_or (paths_of nodes) at [] ≡ [] = path_none nodes at n n_is (omega (arith, zero_is)) in
        let same : root ≡ p =
        some_is (sym begins ∙ ap (slice_get (pairs_at first t states nodes)) (sym zero_is) ∙ p_is) in
        record {
          to = like_same p (fold (noticed_after first next file program) root (get_or (paths_of nodes) at []))
              (ap (fold (noticed_after first next file program) root) none ∙ same);
          acts = subst (ActsAlong root) (sym none) tt;
        }

    later_leads : (at : ℕ) (n : Node) (p : Noticed S) → slice_get nodes at ≡ Some n →
        slice_get (pairs_at first t states nodes) at ≡ Some p →
        (s : IsStepOf file (pairs_at first t states nodes) at n) →
        Leads n.before s.earlier →
        Leads at p
    later_leads at n p n_is p_is s b =
        let a : IsAfter first next file program (pairs_at first t states nodes) n p =
        (sound.linked at n p n_is p_is).later s.before in
        let same : a.earlier ≡ s.earlier = some_is (sym a.there ∙ s.there) in
        let before : List ℕ = get_or (paths_of nodes) n.before [] in
        let path : get_or (paths_of nodes) at [] ≡ get_or (paths_of nodes) n.before [] ++ n.thread ∷ [] =
        path_on nodes at n n_is s.before in
        let q : Noticed S = fold (noticed_after first next file program) root (get_or (paths_of nodes) n.before []) in
        let one : IsLike p (noticed_after first next file program s.earlier n.thread) =
        subst (λ (e : Noticed S). IsLike p (noticed_after first next file program e n.thread)) same
        (subst (λ c. IsLike p (fold (noticed_after first next file program) a.earlier (replicate c n.thread))) s.one
        a.is) in
        let two : IsLike (noticed_after first next file program s.earlier n.thread)
        (noticed_after first next file program
        (fold (noticed_after first next file program) root (get_or (paths_of nodes) n.before [])) n.thread) =
        like_fold first next file program sound.hides s.earlier q b.to (n.thread ∷ []) in
        let whole : fold (noticed_after first next file program) root (get_or (paths_of nodes) at []) ≡
        noticed_after first next file program
        (fold (noticed_after first next file program) root (get_or (paths_of nodes) n.before [])) n.thread =
        ap (fold (noticed_after first next file program) root) path
        ∙ fold-append (noticed_after first next file program) root before (n.thread ∷ []) in
        record {
          to = subst (IsLike p) (sym whole)
              (like_both p (noticed_after first next file program s.earlier n.thread)
              (noticed_after first next file program q n.thread) one two);
          acts = subst (ActsAlong root) (sym path) (along_more root before n.thread b.acts
              (acts_other file s.earlier.configuration q.configuration b.to.other n.thread s.acts));
        }

    leads_by : (fuel at : ℕ) → at < fuel → (n : Node) → slice_get nodes at ≡ Some n → (p : Noticed S) →
        slice_get (pairs_at first t states nodes) at ≡ Some p → Leads at p
    leads_by zero at less n n_is p p_is = absurd (omega (arith, less))
    leads_by (suc fuel) at less n n_is p p_is =
        by_place (λ i less' m m_is q q_is. leads_by fuel i less' m m_is q q_is) (cases_lt 0 at)
      where
        by_place : ((i : ℕ) → i < fuel → (m : Node) → slice_get nodes i ≡ Some m → (q : Noticed S) →
            slice_get (pairs_at first t states nodes) i ≡ Some q → Leads i q) → (0 < at) ⊎ (at ≤ 0) → Leads at p
        by_place deeper (inl later) =
            let s : IsStepOf file (pairs_at first t states nodes) at n = steps at n n_is later in
            let m = there nodes n.before (pairs_within n.before s.earlier s.there) in
            later_leads at n p n_is p_is s
            (deeper n.before (omega (arith, less, s.before)) m.0 m.1 s.earlier s.there)
        by_place deeper (inr past) = first_leads at n p n_is p_is (omega (arith, past))

    pub leads : (at : ℕ) (n : Node) → slice_get nodes at ≡ Some n →
        Leads at (noticed_at first t states n.place)
    leads at n n_is =
        leads_by (suc at) at (omega arith) n n_is (noticed_at first t states n.place)
        (map_there (λ (m : Node). noticed_at first t states m.place) nodes at n n_is)
