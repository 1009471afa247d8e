-- What is known of states that were found stays while others are found.
use Rattle.std.proofs.Common.{◌≡◌, ◌⊎◌, inl, inr, ℕ, ◌+◌, ◌<◌, ◌≤◌, ◌||◌, Bool, true, false, List, [], ◌∷◌}
use Rattle.std.proofs.Common.{◌++◌, length, Some, refl, sym, ap, ◌∙◌, subst, arith}
use Rattle.std.specs.Prelude.{slice_get}
use Rattle.std.proofs.lemmas.Bool.{cases_lt}
use Rattle.ls_events.specs.declared.event.Event.{Event}
use Rattle.ls_checked.specs.CheckedTree.{File}
use Rattle.ls_checked.specs.CheckedProgram.{Program}
use Rattle.ls_meaning.specs.declared.step.Did.{Did}
use Rattle.ls_meaning.specs.declared.step.Did.TheVariants as did
use Rattle.ls_meaning.specs.Still.{IsActing, IsStill}
use Rattle.ls_search_laws.specs.Configuration.{stride}
use Rattle.ls_search_laws.specs.Noticing.{Noticed, noticed_after}
use Rattle.ls_transitions.specs.Tables.{Table, Grows, Keeps}
use Rattle.ls_transitions.proofs.Keeping.{below, there}
use Rattle.ls_search.specs.declared.places.Looked.{Looked}
use Rattle.ls_search.specs.declared.places.Looked.TheVariants as looked
use Rattle.ls_search.specs.declared.places.Node.{Node}
use Rattle.ls_search.specs.declared.places.Seen.{Seen}
use Rattle.ls_search.specs.Found.{Pushed}
use Rattle.ls_search.specs.Searched.{AreExpanded, IsAfter, IsExpanded, IsIn, IsLinked, IsLooked, IsNode, IsSound}
use Rattle.ls_search.specs.Searched.{noticed_at, pairs_at, seen_with, acts_of, waits_of}
use Rattle.ls_search.proofs.Pairs.{map_there, node_stays, pairs_keep, pairs_stay}
use Rattle.ls_search.proofs.Pairs.{pushed_where}

some_is : {A : Type 0} {x y : A} → Some x ≡ Some y → x ≡ y
some_is h = cc

module _ {S : Type 0} (first : S) (next : S → Event → S) (file : File) (program : Program) where
  after_stays : (old new : List (Noticed S)) (node : Node) (p : Noticed S) → Keeps old new →
      IsAfter first next file program old node p → IsAfter first next file program new node p
  after_stays old new node p keeps h = record {
    earlier = h.earlier;
    there = keeps node.before h.earlier h.there;
    is = h.is;
  }

  in_stays : (old new : List (Noticed S)) (p : Noticed S) → Keeps old new → IsIn file old p → IsIn file new p
  in_stays old new p keeps h = record {
    place = h.place;
    pair = h.pair;
    here = keeps h.place h.pair h.here;
    thread = h.thread;
    steps = h.steps;
    reaches = h.reaches;
  }

  pub expanded_stays : (old new : List (Noticed S)) (threads : ℕ) (p : Noticed S) (seen : Seen) → Keeps old new →
      IsExpanded first next file program old threads p seen →
      IsExpanded first next file program new threads p seen
  expanded_stays old new threads p seen keeps h = record {
    leads = λ u within acts. in_stays old new (noticed_after first next file program p u) keeps (h.leads u within acts);
    acting = h.acting;
    still = h.still;
    waiting = h.waiting;
    free = h.free;
  }

  -- those of more states
  pub all_expanded_stay : (old new : List (Noticed S)) (threads : ℕ) (seen : List Seen) → Keeps old new →
      length seen ≤ length old →
      AreExpanded first next file program old threads seen →
      AreExpanded first next file program new threads seen
  all_expanded_stay old new threads seen keeps few h at p s here known =
      let within : at < length old = let w = below seen at s known in omega (arith, w, few) in
      let was = there old at within in
      let same : was.0 ≡ p = some_is (sym (keeps at was.0 was.1) ∙ here) in
      subst (λ (q : Noticed S). IsExpanded first next file program new threads q s) same
      (expanded_stays old new threads was.0 s keeps (h at was.0 s was.1 known))

  -- and one more
  pub all_expanded_more : (pairs : List (Noticed S)) (threads : ℕ) (seen all : List Seen) (p : Noticed S) (s : Seen) →
      all ≡ seen ++ s ∷ [] →
      slice_get pairs (length seen) ≡ Some p →
      IsExpanded first next file program pairs threads p s →
      AreExpanded first next file program pairs threads seen →
      AreExpanded first next file program pairs threads all
  all_expanded_more pairs threads seen all p s more at h before i q x here known =
      by_place (pushed_where seen s i x (ap (λ (l : List Seen). slice_get l i) (sym more) ∙ known))
    where
      by_place : (slice_get seen i ≡ Some x) ⊎ ((i ≡ length seen) × (s ≡ x)) →
          IsExpanded first next file program pairs threads q x
      by_place (inl old) = before i q x here old
      by_place (inr (last, same)) =
          let is : p ≡ q = some_is (sym at ∙ ap (slice_get pairs) (sym last) ∙ here) in
          subst (λ (r : Noticed S). IsExpanded first next file program pairs threads r x) is
          (subst (IsExpanded first next file program pairs threads p) same h)

  pub none_expanded : (pairs : List (Noticed S)) (threads : ℕ) (seen : List Seen) → seen ≡ [] →
      AreExpanded first next file program pairs threads seen
  none_expanded pairs threads seen none i q x here known =
      absurd (nothing i x (ap (λ (l : List Seen). slice_get l i) (sym none) ∙ known))
    where
      nothing : (j : ℕ) (s : Seen) → slice_get [] j ≡ Some s → ⊥
      nothing j s at = cc

  -- no thread yet
  pub expanded_none : (pairs : List (Noticed S)) (p : Noticed S) (seen : Seen) →
      seen.acts ≡ false → seen.waits ≡ false →
      IsExpanded first next file program pairs 0 p seen
  expanded_none pairs p seen acts waits = record {
    leads = λ u within. absurd (omega arith);
    acting = λ true_is. absurd (no_yes (sym acts ∙ true_is));
    still = λ false_is u within. absurd (omega arith);
    waiting = λ true_is. absurd (no_yes (sym waits ∙ true_is));
    free = λ false_is u within e. absurd (omega arith);
  }
    where
      no_yes : false ≡ true → ⊥
      no_yes e = cc

  -- one thread more
  still_idle : (d : Did) → d ≡ did.Idle → IsStill d
  still_idle d e = subst IsStill (sym e) tt

  still_waits : (d : Did) → d ≡ did.Waits → IsStill d
  still_waits d e = subst IsStill (sym e) tt

  acting_not : (d e : Did) → d ≡ e → IsStill e → IsActing d → ⊥
  acting_not (did.Acted action answer) (did.Acted a x) same still acts = absurd still
  acting_not (did.Acted action answer) did.Waits same still acts = cc
  acting_not (did.Acted action answer) did.Idle same still acts = cc
  acting_not did.Waits e same still acts = absurd acts
  acting_not did.Idle e same still acts = absurd acts

  waits_not_idle : (d : Did) → d ≡ did.Idle → d ≡ did.Waits → ⊥
  waits_not_idle d e f = cc

  waits_not_acts : (d : Did) → IsActing d → d ≡ did.Waits → ⊥
  waits_not_acts (did.Acted action answer) h e = cc
  waits_not_acts did.Waits h e = absurd h
  waits_not_acts did.Idle h e = absurd h

  or_false : (a b : Bool) → (a || b) ≡ false → (a ≡ false) × (b ≡ false)
  or_false true b e = cc
  or_false false b e = (refl, e)

  or_true : (a b : Bool) → (a || b) ≡ true → (a ≡ true) ⊎ (b ≡ true)
  or_true true b e = inl refl
  or_true false b e = inr e

  module _ (pairs : List (Noticed S)) (threads : ℕ) (p : Noticed S) (seen : Seen)
      (h : IsExpanded first next file program pairs threads p seen) where
    leads_more : (l : Looked) → IsLooked first next file program pairs p threads l → (u : ℕ) → u < threads + 1 →
        IsActing (stride file p.configuration u).did →
        IsIn file pairs (noticed_after first next file program p u)
    leads_more l is u within acts = by_thread (cases_lt u threads)
      where
        here : (l : Looked) → IsLooked first next file program pairs p threads l →
            IsActing (stride file p.configuration threads).did →
            IsIn file pairs (noticed_after first next file program p threads)
        here looked.Idle e a = absurd (acting_not (stride file p.configuration threads).did did.Idle e tt a)
        here looked.Waits e a = absurd (acting_not (stride file p.configuration threads).did did.Waits e tt a)
        here looked.Acts e a = e.leads

        by_thread : (u < threads) ⊎ (threads ≤ u) → IsIn file pairs (noticed_after first next file program p u)
        by_thread (inl less) = h.leads u less acts
        by_thread (inr past) =
            let same : threads ≡ u = omega arith in
            subst (λ (v : ℕ). IsIn file pairs (noticed_after first next file program p v)) same
            (here l is (subst (λ (v : ℕ). IsActing (stride file p.configuration v).did) (sym same) acts))

    acting_more : (l : Looked) → IsLooked first next file program pairs p threads l → (seen.acts || acts_of l) ≡ true →
        (u : ℕ) × (u < threads + 1) × IsActing (stride file p.configuration u).did
    acting_more l is true_is = by_case l is (or_true seen.acts (acts_of l) true_is)
      where
        by_case : (l : Looked) → IsLooked first next file program pairs p threads l →
            (seen.acts ≡ true) ⊎ (acts_of l ≡ true) →
            (u : ℕ) × (u < threads + 1) × IsActing (stride file p.configuration u).did
        by_case l is (inl old) = let was = h.acting old in (was.0, omega (arith, was.1), was.2)
        by_case looked.Idle is (inr e) = cc
        by_case looked.Waits is (inr e) = cc
        by_case looked.Acts is (inr e) = (threads, omega arith, is.acts)

    still_more : (l : Looked) → IsLooked first next file program pairs p threads l → (seen.acts || acts_of l) ≡ false →
        (u : ℕ) → u < threads + 1 → IsStill (stride file p.configuration u).did
    still_more l is false_is u within = by_thread (cases_lt u threads)
      where
        both : (seen.acts ≡ false) × (acts_of l ≡ false)
        both = or_false seen.acts (acts_of l) false_is

        here : (l : Looked) → IsLooked first next file program pairs p threads l → acts_of l ≡ false →
            IsStill (stride file p.configuration threads).did
        here looked.Idle e a = still_idle (stride file p.configuration threads).did e
        here looked.Waits e a = still_waits (stride file p.configuration threads).did e
        here looked.Acts e a = cc

        by_thread : (u < threads) ⊎ (threads ≤ u) → IsStill (stride file p.configuration u).did
        by_thread (inl less) = h.still both.0 u less
        by_thread (inr past) =
            let same : threads ≡ u = omega arith in
            subst (λ (v : ℕ). IsStill (stride file p.configuration v).did) same (here l is both.1)

    waiting_more : (l : Looked) → IsLooked first next file program pairs p threads l →
        (seen.waits || waits_of l) ≡ true →
        (u : ℕ) × (u < threads + 1) × ((stride file p.configuration u).did ≡ did.Waits)
    waiting_more l is true_is = by_case l is (or_true seen.waits (waits_of l) true_is)
      where
        by_case : (l : Looked) → IsLooked first next file program pairs p threads l →
            (seen.waits ≡ true) ⊎ (waits_of l ≡ true) →
            (u : ℕ) × (u < threads + 1) × ((stride file p.configuration u).did ≡ did.Waits)
        by_case l is (inl old) = let was = h.waiting old in (was.0, omega (arith, was.1), was.2)
        by_case looked.Idle is (inr e) = cc
        by_case looked.Waits is (inr e) = (threads, omega arith, is)
        by_case looked.Acts is (inr e) = cc

    free_more : (l : Looked) → IsLooked first next file program pairs p threads l →
        (seen.waits || waits_of l) ≡ false →
        (u : ℕ) → u < threads + 1 → (stride file p.configuration u).did ≡ did.Waits → ⊥
    free_more l is false_is u within e = by_thread (cases_lt u threads)
      where
        both : (seen.waits ≡ false) × (waits_of l ≡ false)
        both = or_false seen.waits (waits_of l) false_is

        here : (l : Looked) → IsLooked first next file program pairs p threads l → waits_of l ≡ false →
            (stride file p.configuration threads).did ≡ did.Waits → ⊥
        here looked.Idle is a w = waits_not_idle (stride file p.configuration threads).did is w
        here looked.Waits is a w = cc
        here looked.Acts is a w = waits_not_acts (stride file p.configuration threads).did is.acts w

        by_thread : (u < threads) ⊎ (threads ≤ u) → ⊥
        by_thread (inl less) = h.free both.0 u less e
        by_thread (inr past) =
            let same : threads ≡ u = omega arith in
            here l is both.1 (ap (λ (v : ℕ). (stride file p.configuration v).did) same ∙ e)

    pub expanded_more : (l : Looked) → IsLooked first next file program pairs p threads l →
        IsExpanded first next file program pairs (threads + 1) p (seen_with seen l)
    expanded_more l is = record {
      leads = leads_more l is;
      acting = acting_more l is;
      still = still_more l is;
      waiting = waiting_more l is;
      free = free_more l is;
    }

  -- ---- the states that were found

  -- with one more
  module _ (threads : ℕ) (t t' : Table) (states states' : List S) (nodes nodes' : List Node)
      (h : IsSound first next file program threads t states nodes) (grows : Grows t t')
      (keeps : Keeps states states') where
    pub sound_pushed : (node : Node) → Pushed nodes nodes' node →
        IsNode t' states' threads node.place →
        node.before < length nodes →
        IsAfter first next file program (pairs_at first t states nodes) node (noticed_at first t' states' node.place) →
        IsSound first next file program threads t' states' nodes'
    sound_pushed node pushed is before after = record {
      file_is = grows.file ∙ h.file_is;
      constants = h.constants;
      hides = h.hides;
      are = by_nodes pushed;
      linked = by_linked pushed;
    }
      where
        old : List (Noticed S)
        old = pairs_at first t states nodes

        new : List (Noticed S)
        new = pairs_at first t' states' nodes'

        kept : Keeps old new
        kept = pairs_keep first t t' states states' grows keeps threads nodes h.are nodes' node pushed

        by_nodes : Pushed nodes nodes' node → (at : ℕ) (n : Node) → slice_get nodes' at ≡ Some n →
            IsNode t' states' threads n.place
        by_nodes (inl same) at n e =
            node_stays first t t' states states' grows keeps threads n.place
            (h.are at n (ap (λ (l : List Node). slice_get l at) (sym same) ∙ e))
        by_nodes (inr more) at n e =
            by_place (pushed_where nodes node at n (ap (λ (l : List Node). slice_get l at) (sym more) ∙ e))
          where
            by_place : (slice_get nodes at ≡ Some n) ⊎ ((at ≡ length nodes) × (node ≡ n)) →
                IsNode t' states' threads n.place
            by_place (inl there) = node_stays first t t' states states' grows keeps threads n.place (h.are at n there)
            by_place (inr (last, same)) = subst (λ (m : Node). IsNode t' states' threads m.place) same is

        linked_still : (at : ℕ) (n : Node) (p : Noticed S) → slice_get nodes at ≡ Some n → slice_get new at ≡ Some p →
            IsLinked first next file program new at n p
        linked_still at n p there here =
            let was : slice_get old at ≡ Some (noticed_at first t states n.place) =
            map_there (λ (m : Node). noticed_at first t states m.place) nodes at n there in
            let same : noticed_at first t states n.place ≡ p =
            some_is (sym (kept at (noticed_at first t states n.place) was) ∙ here) in
            let l : IsLinked first next file program old at n p =
            subst (λ (q : Noticed S). IsLinked first next file program old at n q) same
            (h.linked at n (noticed_at first t states n.place) there was) in
            record { later = λ less. after_stays old new n p kept (l.later less); is_first = l.is_first }

        by_linked : Pushed nodes nodes' node → (at : ℕ) (n : Node) (p : Noticed S) → slice_get nodes' at ≡ Some n →
            slice_get new at ≡ Some p → IsLinked first next file program new at n p
        by_linked (inl same) at n p e here =
            linked_still at n p (ap (λ (l : List Node). slice_get l at) (sym same) ∙ e) here
        by_linked (inr more) at n p e here =
            by_place (pushed_where nodes node at n (ap (λ (l : List Node). slice_get l at) (sym more) ∙ e))
          where
            by_place : (slice_get nodes at ≡ Some n) ⊎ ((at ≡ length nodes) × (node ≡ n)) →
                IsLinked first next file program new at n p
            by_place (inl there) = linked_still at n p there here
            by_place (inr (last, same)) =
                let is_here : slice_get new at ≡ Some (noticed_at first t' states' n.place) =
                map_there (λ (m : Node). noticed_at first t' states' m.place) nodes' at n e in
                let p_is : noticed_at first t' states' node.place ≡ p =
                ap (λ (m : Node). noticed_at first t' states' m.place) same ∙ some_is (sym is_here ∙ here) in
                let now : IsAfter first next file program new n p =
                subst (λ (m : Node). IsAfter first next file program new m p) same
                (subst (IsAfter first next file program new node) p_is
                (after_stays old new node (noticed_at first t' states' node.place) kept after)) in
                record {
                  later = λ less. now;
                  is_first = λ past. absurd (omega (arith, before, last, past, ap (λ (m : Node). m.before) same));
                }

    -- nothing new
    pub sound_stays : nodes' ≡ nodes → IsSound first next file program threads t' states' nodes'
    sound_stays same = record {
      file_is = grows.file ∙ h.file_is;
      constants = h.constants;
      hides = h.hides;
      are = λ at n e. node_stays first t t' states states' grows keeps threads n.place
          (h.are at n (ap (λ (l : List Node). slice_get l at) (sym same) ∙ e));
      linked = λ at n p e here.
          let pairs : pairs_at first t' states' nodes' ≡ pairs_at first t states nodes =
          ap (pairs_at first t' states') same ∙ pairs_stay first t t' states states' grows keeps threads nodes h.are in
          subst (λ (l : List (Noticed S)). IsLinked first next file program l at n p) (sym pairs)
          (h.linked at n p (ap (λ (l : List Node). slice_get l at) (sym same) ∙ e)
          (ap (λ (l : List (Noticed S)). slice_get l at) (sym pairs) ∙ here));
    }
