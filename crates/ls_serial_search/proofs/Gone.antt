-- Schedules that become more.
use Rattle.std.proofs.Common.{◌≡◌, ◌⊎◌, inl, inr, ℕ, zero, suc, ◌+◌, ◌<◌, ◌≤◌, Bool, true, false, List, [], ◌∷◌, ◌++◌}
use Rattle.std.proofs.Common.{Some, Contains, refl}
use Rattle.std.proofs.Common.{length, replicate, slice_get, slice_index_or, sym, ap, ◌∙◌, subst, arith, append_assoc}
use Rattle.std.proofs.Common.{append-nil}
use Rattle.std.proofs.lemmas.Bool.{cases_lt}
use Rattle.std.proofs.lemmas.List.Elements.{Contains-append_left, Contains-push, Contains-push_cases}
use Rattle.ls_checked.specs.CheckedTree.{File}
use Rattle.ls_checked.specs.CheckedProgram.{Program}
use Rattle.ls_meaning.specs.Runs.{source_history}
use Rattle.ls_serial.specs.Serial.{IsSerial}
use Rattle.ls_serial.proofs.Lists.{contains_get, get_contains, get_within, is_get}
use Rattle.ls_search_laws.specs.Stepping.{ActAll}
use Rattle.ls_search_laws.proofs.Acting.{acts_times}
use Rattle.ls_serial_search.specs.Following.{IsFollowed}
use Rattle.ls_serial_search.specs.Happened.{EndsIn}
use Rattle.ls_serial_search.specs.Searched.{AreActing, AreSerial, IsSearched}
use Rattle.ls_serial_search.specs.Told.{AreMore}

-- what follows from one of two
pub one_or_other : (a b : Bool) (P : Type 0) → (a ≡ false) ⊎ (b ≡ false) → (a ≡ false → P) → (b ≡ false → P) → P
one_or_other a b P (inl e) first second = first e
one_or_other a b P (inr e) first second = second e

-- what is so either way
pub either_is : (b : Bool) (P Q : Type 0) → (b ≡ true → P) → (b ≡ false → Q) → P ⊎ Q
either_is true P Q first second = inl (first refl)
either_is false P Q first second = inr (second refl)

module _ (file : File) (program : Program) where
  -- the same schedules
  pub no_more : (known : List (List ℕ)) → AreMore file program known known
  no_more known = record { more = []; is = append-nil known; serial = λ s. s; acts = λ s. s }

  -- more, and more again
  pub more_again : (a b c : List (List ℕ)) → AreMore file program a b → AreMore file program b c →
      AreMore file program a c
  more_again a b c m n = record {
    more = m.more ++ n.more;
    is = sym (append_assoc a m.more n.more) ∙ ap (λ l. l ++ n.more) m.is ∙ n.is;
    serial = λ s. n.serial (m.serial s);
    acts = λ s. n.acts (m.acts s);
  }

  pub there_more : (a b : List (List ℕ)) (s : List ℕ) → AreMore file program a b → Contains a s → Contains b s
  there_more a b s m there = subst (λ l. Contains l s) m.is (Contains-append_left a m.more s there)

  pub followed_more : (a b : List (List ℕ)) (s : List ℕ) (t : ℕ) → AreMore file program a b →
      IsFollowed file program a s t →
      IsFollowed file program b s t
  followed_more a b s t m (inl still) = inl still
  followed_more a b s t m (inr (inl never)) = inr (inl never)
  followed_more a b s t m (inr (inr f)) =
      inr (inr (record { call = f.call; steps = f.steps; begun = f.begun; there = there_more a b _ m f.there }))

  -- a call that ends
  pub ends_followed : (a b : List (List ℕ)) (s longer : List ℕ) (t n : ℕ) →
      EndsIn file program s t n →
      longer ≡ s ++ replicate n t →
      b ≡ a ++ longer ∷ [] →
      IsFollowed file program b s t
  ends_followed a b s longer t n f is more = inr (inr (record {
    call = f.call;
    steps = f.before;
    begun = f.begun;
    there = subst (λ l. Contains b l) (is ∙ ap (λ k. s ++ replicate k t) f.is)
        (subst (λ l. Contains l longer) (sym more) (Contains-push a longer));
  }))

  pub ends_more : (a b : List (List ℕ)) (s longer : List ℕ) (t n : ℕ) →
      EndsIn file program s t n →
      longer ≡ s ++ replicate n t →
      b ≡ a ++ longer ∷ [] →
      Contains a s →
      AreMore file program a b
  ends_more a b s longer t n f is more there = record {
    more = longer ∷ [];
    is = sym more;
    serial = λ serial x inside. by_place serial x
        (Contains-push_cases a longer x (subst (λ l. Contains l x) more inside));
    acts = λ acts x inside. acts_by_place acts x
        (Contains-push_cases a longer x (subst (λ l. Contains l x) more inside));
  }
    where
      acts_by_place : AreActing file program a → (x : List ℕ) → Contains a x ⊎ (longer ≡ x) → ActAll file program x
      acts_by_place acts x (inl old) = acts x old
      acts_by_place acts x (inr new) = subst (ActAll file program) (sym is ∙ new)
          (acts_times file program s t n (acts s there) f.acts)

      by_place : AreSerial file program a → (x : List ℕ) → Contains a x ⊎ (longer ≡ x) →
          IsSerial (source_history file program x)
      by_place serial x (inl old) = serial x old
      by_place serial x (inr new) = subst (λ l. IsSerial (source_history file program l)) (sym is ∙ new)
          (f.serial (serial s there))

  -- ---- the threads of one schedule

  -- what is said of a schedule's thread, among known schedules
  abbrev pub Said : Type 1
  Said = List (List ℕ) → List ℕ → ℕ → Type 0

  -- more schedules keep it
  abbrev IsKeptByMore : Said → Type 0
  IsKeptByMore Q = (a b : List (List ℕ)) (s : List ℕ) (t : ℕ) → AreMore file program a b → Q a s t → Q b s t

  -- it is so of the first threads
  abbrev pub OfThreads : Said → List (List ℕ) → List ℕ → ℕ → Type 0
  OfThreads Q known s n = (t : ℕ) → t < n → Q known s t

  of_threads_more : (Q : Said) → IsKeptByMore Q → (a b : List (List ℕ)) (s : List ℕ) (n : ℕ) →
      AreMore file program a b →
      OfThreads Q a s n →
      Q b s n →
      OfThreads Q b s (n + 1)
  of_threads_more Q kept a b s n m old new t lt = by_place (cases_lt t n)
    where
      by_place : (t < n) ⊎ (n ≤ t) → Q b s t
      by_place (inl less) = kept a b s t m (old t less)
      by_place (inr past) = let same : n ≡ t = omega arith in subst (Q b s) same new

  abbrev pub AreFollowed : List (List ℕ) → List ℕ → ℕ → Type 0
  AreFollowed known s n = OfThreads (IsFollowed file program) known s n

  pub threads_more : (a b : List (List ℕ)) (s : List ℕ) (n : ℕ) →
      AreMore file program a b →
      AreFollowed a s n →
      IsFollowed file program b s n →
      AreFollowed b s (n + 1)
  threads_more = of_threads_more (IsFollowed file program) followed_more

  -- ---- the schedules up to a place

  abbrev pub AreSo : Said → List (List ℕ) → ℕ → Type 0
  AreSo Q known n = (i : ℕ) (s : List ℕ) → i < n → slice_get known i ≡ Some s →
      OfThreads Q known s (length program.threads)

  abbrev pub AreDone : List (List ℕ) → ℕ → Type 0
  AreDone known n = AreSo (IsFollowed file program) known n

  get_before : (a more : List (List ℕ)) (i : ℕ) (s : List ℕ) →
      i < length a →
      slice_get (a ++ more) i ≡ Some s →
      slice_get a i ≡ Some s
  get_before [] more i s lt at = absurd (omega arith)
  get_before (x ∷ a) more zero s lt at = at
  get_before (x ∷ a) more (suc i) s lt at = get_before a more i s (omega arith) at

  some_is : {x y : List ℕ} → Some x ≡ Some y → x ≡ y
  some_is h = cc

  so_more : (Q : Said) → IsKeptByMore Q → (a b : List (List ℕ)) (s : List ℕ) (n : ℕ) →
      n < length a →
      slice_get a n ≡ Some s →
      AreMore file program a b →
      AreSo Q a n →
      OfThreads Q b s (length program.threads) →
      AreSo Q b (n + 1)
  so_more Q kept a b s n within at m old new i x lt there = by_place (cases_lt i n)
    where
      before : i < length a → slice_get a i ≡ Some x
      before less = get_before a m.more i x less (subst (λ l. slice_get l i ≡ Some x) (sym m.is) there)

      by_place : (i < n) ⊎ (n ≤ i) → OfThreads Q b x (length program.threads)
      by_place (inl less) = λ t l. kept a b x t m (old i x less (before (omega arith)) t l)
      by_place (inr past) =
          let same : n ≡ i = omega arith in
          subst (λ y. OfThreads Q b y (length program.threads))
          (some_is (sym at ∙ ap (slice_get a) same ∙ before (omega arith))) new

  -- all of them
  all_so : (Q : Said) (known : List (List ℕ)) (n : ℕ) →
      length known ≤ n →
      AreSo Q known n →
      (s : List ℕ) → Contains known s → OfThreads Q known s (length program.threads)
  all_so Q known n le so s there t lt =
      let at = contains_get known s there in so at.0 s (omega (arith, get_within known at.0 s at.1)) at.1 t lt

  -- ---- the search so far

  -- the schedule that is gone on from is one of those
  pub gone_at : (a : List (List ℕ)) (s x : List ℕ) (n : ℕ) →
      n < length a →
      x ≡ slice_index_or a n x →
      s ≡ x →
      slice_get a n ≡ Some s
  gone_at a s x n lt is same = is_get a n x lt ∙ ap Some (sym is) ∙ ap Some (sym same)

  pub gone_there : (a : List (List ℕ)) (s x : List ℕ) (n : ℕ) →
      n < length a →
      x ≡ slice_index_or a n x →
      s ≡ x →
      Contains a s
  gone_there a s x n lt is same = get_contains a n s (gone_at a s x n lt is same)

  -- what is known when so many schedules were gone on from
  pub record IsGone (known : List (List ℕ)) (n : ℕ) (complete : Bool) : Type 0 where
    pub start : Contains known []
    pub serial : AreSerial file program known
    pub acts : AreActing file program known
    pub done : complete ≡ true → AreDone known n

  pub gone_first : (known : List (List ℕ)) → known ≡ [] ∷ [] → IsGone known 0 true
  gone_first known is = record {
    start = subst (λ l. Contains l []) (sym is) (Contains-push [] []);
    serial = λ s there. subst (λ l. IsSerial (source_history file program l)) (only s there) tt;
    acts = λ s there. subst (ActAll file program) (only s there) refl;
    done = λ all i s lt at. absurd (omega arith);
  }
    where
      by_place : (s : List ℕ) → Contains [] s ⊎ ([] ≡ s) → [] ≡ s
      by_place s (inl there) = absurd (omega (arith, there.1))
      by_place s (inr same) = same

      only : (s : List ℕ) → Contains known s → [] ≡ s
      only s there = by_place s (Contains-push_cases [] [] s (subst (λ l. Contains l s) is there))

  pub gone_more : (a b : List (List ℕ)) (s x : List ℕ) (n : ℕ) (all followed both : Bool) →
      n < length a →
      x ≡ slice_index_or a n x →
      s ≡ x →
      IsGone a n all →
      (Contains a s → AreMore file program a b) →
      (followed ≡ true → Contains a s → AreFollowed b s (length program.threads)) →
      (both ≡ true → (all ≡ true) × (followed ≡ true)) →
      IsGone b (n + 1) both
  gone_more a b s x n all followed both lt is same old more new split = record {
    start = there_more a b [] (more there) old.start;
    serial = (more there).serial old.serial;
    acts = (more there).acts old.acts;
    done = λ is_so. so_more (IsFollowed file program) followed_more a b s n lt at (more there)
        (old.done (split is_so).0) (new (split is_so).1 there);
  }
    where
      at : slice_get a n ≡ Some s
      at = is_get a n x lt ∙ ap Some (sym is) ∙ ap Some (sym same)

      there : Contains a s
      there = get_contains a n s at

  pub gone_all : (known : List (List ℕ)) (n : ℕ) (complete : Bool) →
      IsGone known n complete →
      length known ≤ n →
      complete ≡ true →
      IsSearched file program known
  gone_all known n complete g le is_so = record {
    start = g.start;
    serial = g.serial;
    followed = all_so (IsFollowed file program) known n le (g.done is_so);
  }
