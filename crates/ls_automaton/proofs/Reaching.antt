-- States by steps that lead there, and what comes of calls in them.
use Rattle.std.proofs.Common.{◌≡◌, ◌⊎◌, inl, inr, ℕ, zero, suc, ◌≤◌, Bool, true, false, List, [], ◌∷◌, ◌++◌}
use Rattle.std.proofs.Common.{Some, None, Contains, length, map, replicate, slice_get, refl, sym, ap, ◌∙◌}
use Rattle.std.proofs.Common.{subst, arith, append-nil, append_assoc}
use Rattle.std.specs.declared.vec.Vec.{Vec}
use Rattle.std.specs.declared.alloc.Global.{Global}
use Rattle.ls_events.specs.declared.event.Event.{Event}
use Rattle.ls_checked.specs.CheckedTree.{File}
use Rattle.ls_checked.specs.CheckedProgram.{Program}
use Rattle.ls_meaning.specs.Still.{IsStill}
use Rattle.ls_meaning.specs.Runs.{source_history, source_run, step}
use Rattle.ls_serial.specs.Serial.{IsEnd, IsSerial}
use Rattle.ls_serial.proofs.Lists.{get_contains}
use Rattle.ls_search_laws.specs.Configuration.{Configuration, configuration_of}
use Rattle.ls_search_laws.specs.Stepping.{ActAll}
use Rattle.ls_search_laws.proofs.Acting.{acts_times}
use Rattle.ls_serial_search.specs.Following.{NeverEnds, called}
use Rattle.ls_serial_search.specs.Happened.{ActsFor}
use Rattle.ls_serial_search.specs.Marks.{IsMarkOf}
use Rattle.ls_serial_search.specs.Open.{HasEnded, HasLongCall, IsOpen}
use Rattle.ls_serial_search.specs.Orders.{progress_at}
use Rattle.ls_serial_search.proofs.ComingBack.{marked_place}
use Rattle.ls_serial_search.proofs.SoFar.{same_end}
use Rattle.ls_source.specs.declared.playing.Playing.{Playing}
use Rattle.ls_source.specs.Stands.{StandsFor}
use Rattle.ls_automaton.specs.declared.outcome.Outcome.{Outcome}
use Rattle.ls_automaton.specs.declared.spots.Spot.{Spot}
use Rattle.ls_automaton.specs.Spots.{AreSpots, Grows, IsAsked, IsLastOf, IsMarkedAt, IsNumbered, IsSpot}
use Rattle.ls_automaton.specs.Spots.{schedules_of}
use Rattle.ls_automaton.specs.Tables.{IsOutcome}
use Rattle.ls_automaton.proofs.Lists.{in_both, in_first, in_second}
use Rattle.ls_automaton.proofs.Settled.{never_ends_none, still_ends_none}
use Rattle.ls_linearizable.proofs.There.{there_cases, there_first, there_not}

-- ---- lists

pub get_map : {A B : Type 0} (f : A → B) (xs : List A) (n : ℕ) (x : A) → slice_get xs n ≡ Some x →
    slice_get (map f xs) n ≡ Some (f x)
get_map f [] n x is = absurd (nothing is)
  where
    nothing : None ≡ Some x → ⊥
    nothing h = cc
get_map f (y ∷ xs) zero x is = let same : y ≡ x = some_is is in ap (λ z. Some (f z)) same
  where
    some_is : Some y ≡ Some x → y ≡ x
    some_is h = cc
get_map f (y ∷ xs) (suc n) x is = get_map f xs n x is

pub get_last : {A : Type 0} (xs : List A) (x : A) → slice_get (xs ++ x ∷ []) (length xs) ≡ Some x
get_last [] x = refl
get_last (y ∷ xs) x = get_last xs x

pub get_more : {A : Type 0} (xs ys : List A) (n : ℕ) (x : A) → slice_get xs n ≡ Some x →
    slice_get (xs ++ ys) n ≡ Some x
get_more [] ys n x is = absurd (nothing is)
  where
    nothing : None ≡ Some x → ⊥
    nothing h = cc
get_more (y ∷ xs) ys zero x is = is
get_more (y ∷ xs) ys (suc n) x is = get_more xs ys n x is

pub map_more : {A B : Type 0} (f : A → B) (xs ys : List A) → map f (xs ++ ys) ≡ map f xs ++ map f ys
map_more f [] ys = refl
map_more f (x ∷ xs) ys = ap (λ l. f x ∷ l) (map_more f xs ys)

pub grows_none : (spots : List Spot) → Grows spots spots
grows_none spots = ([], append-nil spots)

pub grows_along : (a b c : List Spot) → Grows a b → Grows b c → Grows a c
grows_along a b c (m, e) (n, f) = (m ++ n, sym (append_assoc a m n) ∙ ap (λ l. l ++ n) e ∙ f)

-- the schedule of a number stays
pub schedule_kept : (a b : List Spot) (n : ℕ) (x : List ℕ) → Grows a b → slice_get (schedules_of a) n ≡ Some x →
    slice_get (schedules_of b) n ≡ Some x
schedule_kept a b n x (more, is) at = subst (λ l. slice_get (schedules_of l) n ≡ Some x) is
    (ap (λ l. slice_get l n) (map_more (λ (s : Spot). s.steps.items) a more)
    ∙ get_more (schedules_of a) (schedules_of more) n x at)

module _ (file : File) (program : Program) where
  abbrev config : List ℕ → Configuration
  config x = configuration_of file program (source_run file program x)

  -- ---- numbers

  pub known_number : (spots : List Spot) (n : ℕ) (run : Playing) (steps : List ℕ) → AreSpots file program spots →
      IsMarkedAt spots n run → StandsFor run (progress_at file program steps) →
      IsNumbered file program spots spots steps n
  known_number spots n run steps are m at =
      let s = are m.spot (get_contains spots n m.spot m.there) in
      record {
        grows = grows_none spots;
        are = are;
        next = m.spot.steps.items;
        there = get_map (λ (s : Spot). s.steps.items) spots n m.spot m.there;
        same = sym (marked_place file program steps m.spot.mark run m.mark at)
            ∙ marked_place file program m.spot.steps.items m.spot.mark s.run s.mark s.at;
      }

  pub are_pushed : (spots : List Spot) (s : Spot) → AreSpots file program spots → IsSpot file program s →
      AreSpots file program (spots ++ s ∷ [])
  are_pushed spots s are is z there = by_place (in_both spots (s ∷ []) z there)
    where
      by_place : Contains spots z ⊎ Contains (s ∷ []) z → IsSpot file program z
      by_place (inl old) = are z old
      by_place (inr new) = by_last (there_cases s z [] new)
        where
          by_last : (s ≡ z) ⊎ Contains [] z → IsSpot file program z
          by_last (inl same) = subst (IsSpot file program) same is
          by_last (inr none) = absurd (there_not z none)

  pub new_spot : (s : Spot) (steps : Vec ℕ Global) (run : Playing) → s.steps ≡ steps → IsMarkOf s.mark run →
      StandsFor run (progress_at file program steps.items) → IsSerial (source_history file program steps.items) →
      ActAll file program steps.items → IsSpot file program s
  new_spot s steps run is mark at serial acts = record {
    run = run;
    mark = mark;
    at = subst (λ (v : Vec ℕ Global). StandsFor run (progress_at file program v.items)) (sym is) at;
    serial = subst (λ (v : Vec ℕ Global). IsSerial (source_history file program v.items)) (sym is) serial;
    acts = subst (λ (v : Vec ℕ Global). ActAll file program v.items) (sym is) acts;
  }

  pub new_number : (spots new : List Spot) (s : Spot) (n : ℕ) (steps : Vec ℕ Global) → AreSpots file program spots →
      IsSpot file program s → s.steps ≡ steps → new ≡ spots ++ s ∷ [] → n ≡ length spots →
      IsNumbered file program spots new steps.items n
  new_number spots new s n steps are is own pushed place =
      let all : IsNumbered file program spots (spots ++ s ∷ []) steps.items (length spots) = record {
        grows = (s ∷ [], refl);
        are = are_pushed spots s are is;
        next = s.steps.items;
        there = get_map (λ (z : Spot). z.steps.items) (spots ++ s ∷ []) (length spots) s (get_last spots s);
        same = ap (λ (v : Vec ℕ Global). config v.items) (sym own);
      } in
      subst (λ l. IsNumbered file program spots l steps.items n) (sym pushed)
      (subst (IsNumbered file program spots (spots ++ s ∷ []) steps.items) (sym place) all)

  -- ---- outcomes

  module _ (bound : ℕ) (x : List ℕ) (t : ℕ)
      (spots : List Spot) (row : List Outcome) (are : AreSpots file program spots)
    where
      none_asked : (goes_on : Bool) → ((n : ℕ) → HasEnded file program x t n → (n ≤ bound) ⊎ (goes_on ≡ false) → ⊥) →
          IsAsked file program bound goes_on x t spots spots row row
      none_asked goes_on none = record {
        grows = grows_none spots;
        are = are;
        kept = λ o there. there;
        outcomes = λ o there. inl there;
        told = λ n ended known. absurd (none n ended known);
      }

      pub still_asked : IsStill (step file program (source_run file program x) t).did →
          IsAsked file program bound false x t spots spots row row
      still_asked still = none_asked false (λ n ended known. still_ends_none file program x t
          (subst (λ z. IsStill (step file program (source_run file program z) t).did)
          (sym (append-nil x)) still) n ended)

      pub never_asked : (call : ℕ) → NeverEnds file program x t call →
          IsAsked file program bound false x t spots spots row row
      never_asked call never = none_asked false (λ n ended known. never_ends_none file program x t call never n ended)

      pub open_asked : IsOpen file program x t bound → IsAsked file program bound true x t spots spots row row
      open_asked is_open = none_asked true (λ n ended known. by_bound n ended known)
        where
          apart : true ≡ false → ⊥
          apart h = cc

          by_bound : (n : ℕ) → HasEnded file program x t n → (n ≤ bound) ⊎ (true ≡ false) → ⊥
          by_bound n ended (inl few) = is_open.none n few ended
          by_bound n ended (inr never) = apart never

  pub open_long : (bound : ℕ) (x : List ℕ) (t : ℕ) → IsSerial (source_history file program x) → ActAll file program x →
      IsOpen file program x t bound × ActsFor file program x t bound → HasLongCall file program bound
  open_long bound x t serial acts so = record {
    schedule = x;
    thread = t;
    serial = serial;
    goes_on = record {
      steps = bound;
      acts = acts_times file program x t bound acts so.1;
      is_open = so.0;
      long = inl (omega arith);
    };
  }

  last_is : (g : List Event) (c e : Event) (h : List Event) (z : Event) → h ≡ g ++ c ∷ e ∷ [] → IsLastOf h z → z ≡ e
  last_is g c e h z is last =
      (same_end last.front (g ++ c ∷ []) z e (sym last.is ∙ is ∙ sym (append_assoc g (c ∷ []) (e ∷ [])))).1

  -- the outcome of a call that ends
  pub ended_asked : (bound : ℕ) (x longer : List ℕ) (t count : ℕ) (old new : List Spot) (row more : List Outcome)
      (o : Outcome) →
      HasEnded file program x t count →
      longer ≡ x ++ replicate count t →
      IsNumbered file program old new longer o.after →
      IsLastOf (source_history file program longer) o.end →
      more ≡ row ++ o ∷ [] →
      IsAsked file program bound false x t old new row more
  ended_asked bound x longer t count old new row more o ended is number last pushed = record {
    grows = number.grows;
    are = number.are;
    kept = λ z there. subst (λ l. Contains l z) (sym pushed) (in_first row (o ∷ []) z there);
    outcomes = λ z there. by_place z (in_both row (o ∷ []) z (subst (λ l. Contains l z) pushed there));
    told = λ n has known. record {
      outcome = o;
      there = subst (λ l. Contains l o) (sym pushed) (in_second row (o ∷ []) o (there_first o []));
      thread = end_thread;
    };
  }
    where
      end_is : o.end ≡ ended.end
      end_is = last_is (source_history file program x) (called t ended.call) ended.end
          (source_history file program longer) o.end (ap (source_history file program) is ∙ ended.is) last

      end_thread : o.end.thread ≡ t
      end_thread = ap (λ (e : Event). e.thread) end_is ∙ ended.ends.thread

      end_call : o.end.call ≡ ended.call
      end_call = ap (λ (e : Event). e.call) end_is ∙ ended.ends.call

      steps_are : x ++ replicate count o.end.thread ≡ longer
      steps_are = ap (λ u. x ++ replicate count u) end_thread ∙ sym is

      outcome : IsOutcome file program (schedules_of new) x o
      outcome = record {
        is_end = subst (λ (e : Event). IsEnd e) (sym end_is) ended.ends.ends;
        steps = count;
        history = ap (source_history file program) (steps_are ∙ is) ∙ ended.is
            ∙ ap (λ u. source_history file program x ++ called u ended.call ∷ ended.end ∷ []) (sym end_thread)
            ∙ ap (λ u. source_history file program x ++ called o.end.thread u ∷ ended.end ∷ []) (sym end_call)
            ∙ ap (λ e. source_history file program x ++ called o.end.thread o.end.call ∷ e ∷ []) (sym end_is);
        next = number.next;
        there = number.there;
        same = ap config steps_are ∙ number.same;
      }

      by_place : (z : Outcome) → Contains row z ⊎ Contains (o ∷ []) z →
          Contains row z ⊎ IsOutcome file program (schedules_of new) x z
      by_place z (inl old_one) = inl old_one
      by_place z (inr last_one) = by_last (there_cases o z [] last_one)
        where
          by_last : (o ≡ z) ⊎ Contains [] z → Contains row z ⊎ IsOutcome file program (schedules_of new) x z
          by_last (inl same) = inr (subst (IsOutcome file program (schedules_of new) x) same outcome)
          by_last (inr none) = absurd (there_not z none)
