-- What a closed list of states tells of all schedules.
use Rattle.std.proofs.Common.{◌≡◌, ℕ, Bool, true, false, List, [], ◌∷◌, ◌++◌, Option, None, Some, length, refl, sym, ap}
use Rattle.std.proofs.Common.{◌∙◌, subst, replicate}
use Rattle.std.specs.Prelude.{Contains, IfNone, if◌then◌else◌}
use Rattle.std.specs.List.{fold}
use Rattle.std.proofs.lemmas.Option.{get_or_from_slice_get, slice_get_within}
use Rattle.ls_events.specs.declared.value.Value.TheVariants.{Int, Boolean, Reference, Pair}
use Rattle.ls_events.specs.declared.event.Event.{Event}
use Rattle.ls_events.specs.declared.event.Happening.{Happening}
use Rattle.ls_events.specs.declared.event.Happening.TheVariants.{Called, Returned, Trapped}
use Rattle.ls_checked.specs.CheckedTree.{File}
use Rattle.ls_checked.specs.CheckedProgram.{Program}
use Rattle.ls_meaning.specs.Renamings.{IsRenaming}
use Rattle.ls_meaning.specs.Runs.{State, source_history, source_run, step}
use Rattle.ls_meaning.specs.Still.{IsActing, IsStill}
use Rattle.ls_search_laws.specs.Configuration.{Configuration, configuration_of, stride}
use Rattle.ls_search_laws.specs.Noticing.{IsAlikeUnder, Noticed, StaysBad, noticed_after, noticed_of}
use Rattle.ls_search_laws.specs.Noticing.{renamed_event}
use Rattle.ls_search_laws.specs.Search.{IsEndFound, IsSearch}
use Rattle.ls_search_laws.specs.Stepping.{SetsUp}
use Rattle.ls_search_laws.proofs.Cells.{turns_fair}
use Rattle.ls_search_laws.proofs.Histories.{histories_alike}
use Rattle.ls_search_laws.proofs.Renamed.{step_stride}
use Rattle.ls_search_laws.proofs.Search.{finds_ends, finds_none_bad}
use Rattle.ls_search_laws.proofs.Telling.{long_of_all, tells_truth}
use Rattle.ls_search.specs.Answers.{ClosesAll, IsStuck}
use Rattle.ls_search.specs.Strides.{at_once}
use Rattle.ls_search.specs.Searched.{HidesNames, IsOther}
use Rattle.ls_search.proofs.Telling.{none_map}
use Rattle.ls_search.proofs.Unrenamed.{own, unrenamed}
use Rattle.ls_search.specs.Nameless.{is_nameless, nameless_bad, nameless_next}
use Rattle.ls_search.specs.Verdicts.{ActsAfter, AllGood, LeavesStuck, NeverStuck}

none_not : {A : Type 0} {x : A} → None ≡ Some x → ⊥
none_not h = cc

some_is : {A : Type 0} {x y : A} → Some x ≡ Some y → x ≡ y
some_is h = cc

not_both : true ≡ false → ⊥
not_both e = cc

-- ---- what is noted of events that name no object

module _ {S : Type 0} (next : S → Event → S) where
  nameless_at : (names : ℕ → ℕ) (m : S) (thread call : ℕ) (h : Happening) →
      nameless_next next (Some m) (renamed_event names (record { thread = thread; call = call; happening = h })) ≡
      nameless_next next (Some m) (record { thread = thread; call = call; happening = h })
  nameless_at names m thread call Called = refl
  nameless_at names m thread call (Returned None) = refl
  nameless_at names m thread call (Returned (Some (Int z))) = refl
  nameless_at names m thread call (Returned (Some (Boolean b))) = refl
  nameless_at names m thread call (Returned (Some (Reference n))) = refl
  nameless_at names m thread call (Returned (Some (Pair n mark))) = refl
  nameless_at names m thread call (Trapped kind) = refl

  pub nameless_hides : HidesNames (nameless_next next)
  nameless_hides names is None e = refl
  nameless_hides names is (Some m) e = nameless_at names m e.thread e.call e.happening

  none_stays : (es : List Event) → fold (nameless_next next) None es ≡ None
  none_stays [] = refl
  none_stays (e ∷ es) = none_stays es

  -- where something is noted, so it is of all events
  pub noted_is : (m n : S) (es : List Event) → fold (nameless_next next) (Some m) es ≡ Some n → fold next m es ≡ n
  noted_is m n [] same = some_is same
  noted_is m n (e ∷ es) same = by_name (noted_is (next m e) n es) (is_nameless e.happening) same
    where
      by_name : (fold (nameless_next next) (Some (next m e)) es ≡ Some n → fold next (next m e) es ≡ n) →
          (b : Bool) →
          fold (nameless_next next) (if b then Some (next m e) else None) es ≡ Some n →
          fold next (next m e) es ≡ n
      by_name so true h = so h
      by_name so false h = absurd (none_not (sym (none_stays es) ∙ h))

  module _ (is_bad : S → Bool) where
    abbrev pub bad_or_none : Option S → Bool
    bad_or_none None = true
    bad_or_none (Some m) = is_bad m

    stays_bad : StaysBad next is_bad → StaysBad (nameless_next next) bad_or_none
    stays_bad stays None e h = refl
    stays_bad stays (Some m) e h = by_name (is_nameless e.happening)
      where
        by_name : (b : Bool) → bad_or_none (if b then Some (next m e) else None) ≡ true
        by_name true = stays m e h
        by_name false = refl

    good_noted : (m : S) (o : Option S) (es : List Event) → fold (nameless_next next) (Some m) es ≡ o →
        bad_or_none o ≡ false →
        is_bad (fold next m es) ≡ false
    good_noted m None es is h = absurd (not_both h)
    good_noted m (Some n) es is h = ap is_bad (noted_is m n es is) ∙ h

    bad_noted : (m : S) (o : Option S) (es : List Event) → fold (nameless_next next) (Some m) es ≡ o →
        nameless_bad is_bad o ≡ true →
        is_bad (fold next m es) ≡ true
    bad_noted m None es is h = absurd (not_both (sym h))
    bad_noted m (Some n) es is h = ap is_bad (noted_is m n es is) ∙ h

    pub good_or_none : {N : Type 0} (stands : N → S) (o : Option S) → (n : N) × (Some (stands n) ≡ o) →
        nameless_bad is_bad o ≡ false →
        bad_or_none o ≡ false
    good_or_none stands None h good = absurd (none_not (sym h.1))
    good_or_none stands (Some m) h good = good

-- ---- what a closed list tells

module _ {N S P : Type 0} (stands : N → S) (first : S) (next : S → Event → S) (is_bad : S → Bool) (file : File)
    (program : Program) (k : ℕ) (bad stuck : Option P) (up : SetsUp file program k)
    (closes : ClosesAll (λ (n : N). Some (stands n)) (Some first) (nameless_next next) (nameless_bad is_bad) file
    program
    (length program.threads)
    (noticed_of (Some first) (nameless_next next) file program (replicate k 0)) bad stuck) where
  alike : IsAlikeUnder IsRenaming (nameless_next next) (λ m n. m ≡ n)
  alike = record {
    along = λ l m n e f. e ∙ f;
    stays = λ names is m n e same.
        ap (λ (l : Option S). nameless_next next l e) same ∙ sym (nameless_hides next names is n e);
  }

  root : Noticed (Option S)
  root = noticed_of (Some first) (nameless_next next) file program (replicate k 0)

  pub searched : IsSearch (Some first) (nameless_next next) at_once IsRenaming (λ m n. m ≡ n) file program k
      closes.pairs
  searched = record {
    names = histories_alike.renamings;
    alike = alike;
    fair = turns_fair.fair;
    up = up;
    root = record {
      pair = noticed_of (Some first) (nameless_next next) file program (replicate k 0);
      there = (
        0,
        slice_get_within closes.pairs 0 (noticed_of (Some first) (nameless_next next) file program (replicate k 0))
            closes.begins,
        get_or_from_slice_get closes.pairs 0 (noticed_of (Some first) (nameless_next next) file program (replicate k 0))
            (noticed_of (Some first) (nameless_next next) file program (replicate k 0)) closes.begins,
      );
      threads = [];
      last = (noticed_of (Some first) (nameless_next next) file program (replicate k 0)).configuration;
      leads = refl;
      names = own;
      allowed = record { null = refl; apart = λ m n e. e };
      same = unrenamed (noticed_of (Some first) (nameless_next next) file program (replicate k 0)).configuration;
      alike = refl;
    };
    complete = record {
      more = λ p t there within acts. closes.more p t there within acts;
      unnoticed = λ p t action answer there did. turns_fair.unnoticed file t action;
    };
  }

  pub all_good : IfNone bad (StaysBad next is_bad → AllGood first next is_bad file program)
  all_good =
      none_map _ _ bad
      (λ (good : (p : Noticed (Option S)) → Contains closes.pairs p → nameless_bad is_bad p.noted ≡ false)
      (stays : StaysBad next is_bad) (schedule : List ℕ).
      good_noted next is_bad first (fold (nameless_next next) (Some first) (source_history file program schedule))
      (source_history file program schedule) refl
      (finds_none_bad (Some first) (nameless_next next) at_once IsRenaming (λ m n. m ≡ n) file program
      (bad_or_none next is_bad) k closes.pairs searched
      (λ m n same e. ap (bad_or_none next is_bad) same ∙ e) (stays_bad next is_bad stays)
      (λ p there. good_or_none next is_bad stands p.noted (closes.noted p there) (good p there)) schedule)) closes.good

  pub never_stuck : IfNone stuck (NeverStuck file program)
  never_stuck =
      none_map _ _ stuck
      (λ (none : (p : Noticed (Option S)) → Contains closes.pairs p → IsStuck file p.configuration → ⊥)
      (schedule : List ℕ)
      (left : LeavesStuck file program schedule).
      by_end none schedule left
      (finds_ends (Some first) (nameless_next next) at_once IsRenaming (λ m n. m ≡ n) file program k closes.pairs
      searched schedule left.over))
      closes.free
    where
      by_end : ((p : Noticed (Option S)) → Contains closes.pairs p → IsStuck file p.configuration → ⊥) →
          (schedule : List ℕ) →
          (left : LeavesStuck file program schedule) →
          IsEndFound (Some first) (nameless_next next) at_once IsRenaming (λ m n. m ≡ n) file program closes.pairs
          schedule →
          ⊥
      by_end none schedule left end = none end.found.pair end.found.there (record {
        still = end.over;
        thread = left.thread;
        waits = end.waits left.thread left.waits;
      })

-- ---- what a path tells

module _ {S : Type 0} (first : S) (next : S → Event → S) (file : File) (program : Program) (k : ℕ) (path : List ℕ) where
  pub bad_of : (is_bad : S → Bool) →
      nameless_bad is_bad
      (fold (noticed_after (Some first) (nameless_next next) file program)
      (noticed_of (Some first) (nameless_next next) file program (replicate k 0)) path).noted
      ≡ true →
      is_bad (fold next first (source_history file program (replicate k 0 ++ path))) ≡ true
  bad_of is_bad e =
      bad_noted next is_bad first
      (fold (nameless_next next) (Some first) (source_history file program (replicate k 0 ++ path)))
      (source_history file program (replicate k 0 ++ path)) refl
      (ap (λ (p : Noticed (Option S)). nameless_bad is_bad p.noted)
      (sym (tells_truth (Some first) (nameless_next next) file program (replicate k 0) path)) ∙ e)

  pub stuck_of :
      IsStuck file (fold (noticed_after first next file program) (noticed_of first next file program (replicate k 0))
      path).configuration →
      LeavesStuck file program (replicate k 0 ++ path)
  stuck_of h =
      let at : IsStuck file (noticed_of first next file program (replicate k 0 ++ path)).configuration =
      subst (λ (p : Noticed S). IsStuck file p.configuration) (tells_truth first next file program (replicate k 0)
      path) h in
      let s : State = source_run file program (replicate k 0 ++ path) in
      let same : (t : ℕ) → (step file program s t).did ≡ (stride file (configuration_of file program s) t).did =
      λ t. (step_stride file program s (long_of_all file program (replicate k 0 ++ path)) t).0 in
      record {
        over = λ t. subst IsStill (sym (same t)) (at.still t);
        thread = at.thread;
        waits = same at.thread ∙ at.waits;
      }

  pub acts_of : (u : ℕ) →
      IsActing (stride file (fold (noticed_after first next file program)
      (noticed_of first next file program (replicate k 0)) path).configuration u).did →
      ActsAfter file program k path u
  acts_of u acts =
      let at : IsActing (stride file (noticed_of first next file program (replicate k 0 ++ path)).configuration u).did =
      subst (λ (p : Noticed S). IsActing (stride file p.configuration u).did)
      (tells_truth first next file program (replicate k 0) path) acts in
      subst IsActing
      (sym (step_stride file program (source_run file program (replicate k 0 ++ path))
      (long_of_all file program (replicate k 0 ++ path)) u).0) at

  -- what a state's configuration is like is what that of a schedule's is like
  pub other_of : (c : Configuration) →
      IsOther c (fold (noticed_after first next file program) (noticed_of first next file program (replicate k 0))
      path).configuration →
      IsOther c (configuration_of file program (source_run file program (replicate k 0 ++ path)))
  other_of c is =
      subst (λ (p : Noticed S). IsOther c p.configuration) (tells_truth first next file program (replicate k 0) path) is
