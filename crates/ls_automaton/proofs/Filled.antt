-- Rows of outcomes, one call and one state more.
use Rattle.std.proofs.Common.{◌≡◌, ◌⊎◌, inl, inr, ℕ, zero, suc, ◌+◌, ◌<◌, ◌≤◌, Bool, true, false, List, [], ◌∷◌, ◌++◌}
use Rattle.std.proofs.Common.{Option, Some, None, Contains, length, slice_get, slice_index_or, refl, sym, ap, ◌∙◌}
use Rattle.std.proofs.Common.{subst, arith}
use Rattle.std.proofs.lemmas.Bool.{cases_lt}
use Rattle.std.specs.declared.vec.Vec.{Vec}
use Rattle.std.specs.declared.alloc.Global.{Global}
use Rattle.ls_checked.specs.CheckedTree.{File}
use Rattle.ls_checked.specs.CheckedProgram.{Program}
use Rattle.ls_meaning.specs.Runs.{source_history}
use Rattle.ls_serial.specs.Serial.{IsSerial}
use Rattle.ls_serial.proofs.Lists.{get_contains, get_within, is_get}
use Rattle.ls_search_laws.specs.Stepping.{ActAll}
use Rattle.ls_serial_search.specs.Open.{HasEnded}
use Rattle.ls_linearizable.proofs.There.{there_cases, there_first, there_later, there_not}
use Rattle.ls_automaton.specs.declared.outcome.Outcome.{Outcome}
use Rattle.ls_automaton.specs.declared.spots.Spot.{Spot}
use Rattle.ls_automaton.specs.Spots.{AreSpots, Grows, IsAsked, IsFirst, IsFound, schedules_of}
use Rattle.ls_automaton.specs.Tables.{AreOutcomes, AreTold, HasOutcome, IsOutcome}
use Rattle.ls_automaton.proofs.Reaching.{are_pushed, get_map, grows_along, grows_none, schedule_kept}
use Rattle.ls_automaton.proofs.Settled.{ended_within}

some_is : {A : Type 0} {x y : A} → Some x ≡ Some y → x ≡ y
some_is h = cc

-- an element of the longer list stands in the shorter one, or is the last
pub pushed_get : {A : Type 0} (xs : List A) (x y : A) (n : ℕ) → slice_get (xs ++ x ∷ []) n ≡ Some y →
    (slice_get xs n ≡ Some y) ⊎ ((n ≡ length xs) × (x ≡ y))
pushed_get [] x y zero is = inr (refl, some_is is)
pushed_get [] x y (suc n) is = absurd (nothing is)
  where
    nothing : None ≡ Some y → ⊥
    nothing h = cc
pushed_get (z ∷ xs) x y zero is = inl is
pushed_get (z ∷ xs) x y (suc n) is = by_place (pushed_get xs x y n is)
  where
    by_place : (slice_get xs n ≡ Some y) ⊎ ((n ≡ length xs) × (x ≡ y)) →
        (slice_get xs n ≡ Some y) ⊎ ((suc n ≡ suc (length xs)) × (x ≡ y))
    by_place (inl there) = inl there
    by_place (inr last) = inr (ap suc last.0, last.1)

pub map_length : (spots : List Spot) → length (schedules_of spots) ≡ length spots
map_length [] = refl
map_length (s ∷ spots) = ap suc (map_length spots)

-- a schedule is that of one of the states
pub of_schedules : (spots : List Spot) (x : List ℕ) → Contains (schedules_of spots) x →
    (s : Spot) × Contains spots s × (s.steps.items ≡ x)
of_schedules [] x there = absurd (there_not x there)
of_schedules (s ∷ spots) x there =
    by_place (of_schedules spots x) (there_cases s.steps.items x (schedules_of spots) there)
  where
    by_place : (Contains (schedules_of spots) x → (z : Spot) × Contains spots z × (z.steps.items ≡ x)) →
        (s.steps.items ≡ x) ⊎ Contains (schedules_of spots) x → (z : Spot) × Contains (s ∷ spots) z ×
        (z.steps.items ≡ x)
    by_place more (inl is) = (s, there_first s spots, is)
    by_place more (inr later) = let r = more later in (r.0, there_later s r.0 spots r.1, r.2)

pub either_long : (P : Type 0) {a b : Bool} → (a ≡ true) ⊎ (b ≡ true) → (a ≡ true → P) → (b ≡ true → P) → P
either_long P (inl h) f g = f h
either_long P (inr h) f g = g h

module _ (file : File) (program : Program) (bound : ℕ) where
  -- the call of this thread has its outcome, if it is known
  abbrev pub IsToldOf : Bool → List ℕ → ℕ → List Outcome → Type 0
  IsToldOf goes_on x t row = (steps : ℕ) → HasEnded file program x t steps → (steps ≤ bound) ⊎ (goes_on ≡ false) →
      HasOutcome row t

  told_more : (g g' : Bool) (x : List ℕ) (t : ℕ) (row more : List Outcome) → (g' ≡ false → g ≡ false) →
      ((o : Outcome) → Contains row o → Contains more o) → IsToldOf g x t row → IsToldOf g' x t more
  told_more g g' x t row more less kept told steps ended known =
      let h = told steps ended (by_bound known) in
      record { outcome = h.outcome; there = kept h.outcome h.there; thread = h.thread }
    where
      by_bound : (steps ≤ bound) ⊎ (g' ≡ false) → (steps ≤ bound) ⊎ (g ≡ false)
      by_bound (inl few) = inl few
      by_bound (inr all) = inr (less all)

  outcome_kept : (a b : List Spot) (x : List ℕ) (o : Outcome) → Grows a b →
      IsOutcome file program (schedules_of a) x o → IsOutcome file program (schedules_of b) x o
  outcome_kept a b x o grows is = record {
    is_end = is.is_end;
    steps = is.steps;
    history = is.history;
    next = is.next;
    there = schedule_kept a b o.after is.next grows is.there;
    same = is.same;
  }

  -- ---- the row of one state

  -- of the threads with lesser numbers
  pub record IsFilled (goes_on : Bool) (old new : List Spot) (x : List ℕ) (t : ℕ) (row : List Outcome) : Type 0 where
    pub grows : Grows old new
    pub are : AreSpots file program new
    pub outcomes : (o : Outcome) → Contains row o → IsOutcome file program (schedules_of new) x o
    pub told : (u : ℕ) → u < t → IsToldOf goes_on x u row

  pub filled_none : (spots : List Spot) (x : List ℕ) (row : List Outcome) → row ≡ [] → AreSpots file program spots →
      IsFilled false spots spots x 0 row
  filled_none spots x row is are = record {
    grows = grows_none spots;
    are = are;
    outcomes = λ o there. absurd (there_not o (subst (λ l. Contains l o) is there));
    told = λ u less. absurd (omega (arith, less));
  }

  pub filled_more : (g one both : Bool) (old mid new : List Spot) (x : List ℕ) (t : ℕ) (row more : List Outcome) →
      (both ≡ false → (g ≡ false) × (one ≡ false)) → IsFilled g old mid x t row →
      IsAsked file program bound one x t mid new row more → IsFilled both old new x (t + 1) more
  filled_more g one both old mid new x t row more none f a = record {
    grows = grows_along old mid new f.grows a.grows;
    are = a.are;
    outcomes = λ o there. by_place o (a.outcomes o there);
    told = λ u less. by_thread u (cases_lt u t) less;
  }
    where
      by_place : (o : Outcome) → Contains row o ⊎ IsOutcome file program (schedules_of new) x o →
          IsOutcome file program (schedules_of new) x o
      by_place o (inl there) = outcome_kept mid new x o a.grows (f.outcomes o there)
      by_place o (inr is) = is

      by_thread : (u : ℕ) → (u < t) ⊎ (t ≤ u) → u < t + 1 → IsToldOf both x u more
      by_thread u (inl before) less =
          told_more g both x u row more (λ e. (none e).0) a.kept (f.told u before)
      by_thread u (inr past) less =
          let same : t ≡ u = omega (arith, past, less) in
          subst (λ v. IsToldOf both x v more) same
          (told_more one both x t more more (λ e. (none e).1) (λ o there. there) a.told)

  pub filled_all : (g : Bool) (old new : List Spot) (x : List ℕ) (t : ℕ) (row : List Outcome) →
      length program.threads ≤ t → IsFilled g old new x t row → IsFound file program bound g old new x row
  filled_all g old new x t row all f = record {
    grows = f.grows;
    are = f.are;
    outcomes = f.outcomes;
    told = λ u steps ended known. f.told u (omega (arith, all, ended_within file program x u steps ended)) steps ended
        known;
  }

  -- ---- the rows of all states

  pub record IsRow (goes_on : Bool) (spots : List Spot) (n : ℕ) (row : List Outcome) : Type 0 where
    pub schedule : List ℕ
    pub there : slice_get (schedules_of spots) n ≡ Some schedule
    pub told : AreTold file program bound goes_on schedule row
    pub outcomes : (o : Outcome) → Contains row o → IsOutcome file program (schedules_of spots) schedule o

  pub record AreFilled (goes_on : Bool) (spots : List Spot) (rows : List (Vec Outcome Global)) : Type 0 where
    pub first : slice_get (schedules_of spots) 0 ≡ Some []
    pub are : AreSpots file program spots
    pub each : (n : ℕ) (row : Vec Outcome Global) → slice_get rows n ≡ Some row → IsRow goes_on spots n row.items

  pub filled_first : (spots : List Spot) (s : Spot) (rows : List (Vec Outcome Global)) → rows ≡ [] →
      spots ≡ s ∷ [] → IsFirst file program s → AreFilled false spots rows
  filled_first spots s rows none is own = record {
    first = ap (λ l. slice_get (schedules_of l) 0) is ∙ ap Some own.steps;
    are = subst (AreSpots file program) (sym is)
        (are_pushed file program [] s (λ z there. absurd (there_not z there)) own.is);
    each = λ n row at. absurd (nothing (sym (ap (λ l. slice_get l n) none) ∙ at));
  }
    where
      nothing : {x : Vec Outcome Global} → None ≡ Some x → ⊥
      nothing h = cc

  pub filled_on : (g one both : Bool) (old new : List Spot) (rows : List (Vec Outcome Global))
      (row : Vec Outcome Global) (x : List ℕ) → (both ≡ false → (g ≡ false) × (one ≡ false)) →
      AreFilled g old rows → slice_get (schedules_of old) (length rows) ≡ Some x →
      IsFound file program bound one old new x row.items → AreFilled both new (rows ++ row ∷ [])
  filled_on g one both old new rows row x none f at found = record {
    first = schedule_kept old new 0 [] found.grows f.first;
    are = found.are;
    each = λ n z there. by_place n z (pushed_get rows row z n there);
  }
    where
      last : IsRow both new (length rows) row.items
      last = record {
        schedule = x;
        there = schedule_kept old new (length rows) x found.grows at;
        told = λ t. told_more one both x t row.items row.items (λ e. (none e).1) (λ o there. there) (found.told t);
        outcomes = found.outcomes;
      }

      by_place : (n : ℕ) (z : Vec Outcome Global) → (slice_get rows n ≡ Some z) ⊎ ((n ≡ length rows) × (row ≡ z)) →
          IsRow both new n z.items
      by_place n z (inl there) =
          let r = f.each n z there in
          record {
            schedule = r.schedule;
            there = schedule_kept old new n r.schedule found.grows r.there;
            told = λ t. told_more g both r.schedule t z.items z.items (λ e. (none e).0) (λ o there. there) (r.told t);
            outcomes = λ o inside. outcome_kept old new r.schedule o found.grows (r.outcomes o inside);
          }
      by_place n z (inr (same, is)) =
          subst (λ m. IsRow both new m z.items) (sym same)
          (subst (λ (v : Vec Outcome Global). IsRow both new (length rows) v.items) is last)

  pub filled_done : (g : Bool) (spots : List Spot) (rows : List (Vec Outcome Global)) → length spots ≤ length rows →
      AreFilled g spots rows → AreOutcomes file program bound g rows
  filled_done g spots rows all f = record {
    spots = schedules_of spots;
    first = f.first;
    serial = λ x there. let s = of_schedules spots x there in
        subst (λ y. IsSerial (source_history file program y)) s.2 (f.are s.0 s.1).serial;
    told = λ n x at. row n x at;
    outcomes = λ n x z o at there inside. outcomes n x z o at there inside;
    ends = λ n z o there inside. ((f.each n z there).outcomes o inside).is_end;
  }
    where
      row : (n : ℕ) (x : List ℕ) → slice_get (schedules_of spots) n ≡ Some x →
          (z : Vec Outcome Global) × (slice_get rows n ≡ Some z) × AreTold file program bound g x z.items
      row n x at = by_get (slice_get rows n) refl
        where
          few : n < length rows
          few = omega (arith, get_within (schedules_of spots) n x at, map_length spots, all)

          by_get : (r : Option (Vec Outcome Global)) → slice_get rows n ≡ r →
              (z : Vec Outcome Global) × (slice_get rows n ≡ Some z) × AreTold file program bound g x z.items
          by_get None is = absurd (beyond rows n few is)
            where
              beyond : (l : List (Vec Outcome Global)) (k : ℕ) → k < length l → slice_get l k ≡ None → ⊥
              beyond [] k less none = absurd (omega (arith, less))
              beyond (v ∷ l) zero less none = absurd (some_none none)
                where
                  some_none : Some v ≡ None → ⊥
                  some_none h = cc
              beyond (v ∷ l) (suc k) less none = beyond l k (omega (arith, less)) none
          by_get (Some z) is =
              let r = f.each n z is in
              (z, is, subst (λ y. AreTold file program bound g y z.items) (some_is (sym r.there ∙ at)) r.told)

      outcomes : (n : ℕ) (x : List ℕ) (z : Vec Outcome Global) (o : Outcome) →
          slice_get (schedules_of spots) n ≡ Some x → slice_get rows n ≡ Some z → Contains z.items o →
          IsOutcome file program (schedules_of spots) x o
      outcomes n x z o at there inside =
          let r = f.each n z there in
          subst (λ y. IsOutcome file program (schedules_of spots) y o) (some_is (sym r.there
          ∙ at)) (r.outcomes o inside)

  -- and the schedules that stand for the states are those by which they were found
  pub filled_whole : (g : Bool) (spots : List Spot) (rows : List (Vec Outcome Global)) → length spots ≤ length rows →
      AreFilled g spots rows →
      (a : AreOutcomes file program bound g rows) × (a.spots ≡ schedules_of spots)
  unfolding filled_done
  filled_whole g spots rows all f = (filled_done g spots rows all f, refl)

  -- steps that lead to a state are as those of a state
  pub serial_to : (spots : List Spot) (n : ℕ) (x : List ℕ) → AreSpots file program spots →
      slice_get (schedules_of spots) n ≡ Some x → IsSerial (source_history file program x)
  serial_to spots n x are at =
      let s = of_schedules spots x (get_contains (schedules_of spots) n x at) in
      subst (λ y. IsSerial (source_history file program y)) s.2 (are s.0 s.1).serial

  pub acting_to : (spots : List Spot) (n : ℕ) (x : List ℕ) → AreSpots file program spots →
      slice_get (schedules_of spots) n ≡ Some x → ActAll file program x
  acting_to spots n x are at =
      let s = of_schedules spots x (get_contains (schedules_of spots) n x at) in
      subst (ActAll file program) s.2 (are s.0 s.1).acts

-- the steps of the next state
pub next_steps : (spots : List Spot) (n : ℕ) (s : Spot) → n < length spots → s ≡ slice_index_or spots n s →
    slice_get (schedules_of spots) n ≡ Some s.steps.items
next_steps spots n s less is =
    get_map (λ (z : Spot). z.steps.items) spots n s (is_get spots n s less ∙ ap Some (sym is))
