-- What is noted of a thread's next call, of each thread's, and of each state.
use Rattle.std.proofs.Common.{◌≡◌, ◌⊎◌, inl, inr, Bool, ℕ, ◌+◌, ◌<◌, ◌≤◌, true, false, List, Option, Some}
use Rattle.std.proofs.Common.{ap, append-nil, arith, length, refl, slice_get, subst, sym, ◌∙◌}
use Rattle.std.proofs.lemmas.Bool.{cases_lt}
use Rattle.ls_checked.specs.CheckedProgram.{Program}
use Rattle.ls_checked.specs.CheckedTree.{File}
use Rattle.ls_events.specs.Limits.{most_steps}
use Rattle.ls_events.specs.declared.event.Event.{Event}
use Rattle.ls_meaning.specs.Runs.{source_history, source_run, step}
use Rattle.ls_meaning.specs.Still.{IsActing}
use Rattle.ls_search_laws.specs.Stepping.{ActAll}
use Rattle.ls_search_laws.proofs.Acting.{acts_times}
use Rattle.ls_serial.specs.Serial.{IsSerial}
use Rattle.ls_serial_search.specs.Happened.{ActsFor, TurnsOn, WaitsWithin}
use Rattle.ls_serial_search.specs.Open.{HasEnded, HasLongCall}
use Rattle.ls_serial_search.proofs.Open.{not_ended}
use Rattle.ls_serial_search.proofs.Stalls.{waiting_never}
use Rattle.ls_automaton.specs.declared.fate.Fate.{Fate}
use Rattle.ls_automaton.specs.declared.fate.Fate.TheVariants as fates
use Rattle.ls_automaton.specs.Fates.{EndsWith}
use Rattle.ls_automaton.proofs.Reaching.{open_long}
use Rattle.ls_automaton.proofs.Settled.{never_ends_none}
use Rattle.ls_serial_faults.specs.Faults.{IsThrown, IsTurning, IsWaiting}
use Rattle.ls_serial_faults.specs.Noted.{AreAdded, AreAllNoted, AreNoted, HasNoted, IsAdded, IsKeptIn, IsNoted}
use Rattle.ls_serial_faults.specs.Noted.{IsNotedThrown, IsTooLong, IsTried}
use Rattle.ls_serial_faults.specs.declared.faults.SerialFaults.{SerialFaults}
use Rattle.ls_serial_faults.specs.declared.faults.Stopped.{Stopped}
use Rattle.ls_serial_faults.specs.declared.faults.Thrown.{Thrown}
use Rattle.ls_serial_faults.proofs.FirstFaults.{kept_again, noted_so, noted_some, thrown_kept, thrown_so, thrown_some}
use Rattle.ls_serial_faults.proofs.FirstFaults.{throws_so, tried_ends, tried_kept, tried_still, tried_turns}
use Rattle.ls_serial_faults.proofs.FirstFaults.{tried_waits, turns_so, waits_so, why_either}

module _ (file : File) (program : Program) where
  -- ---- calls whose schedules would be too long

  module _ (bound : ℕ) (schedule : List ℕ) (t : ℕ) (serial : IsSerial (source_history file program schedule))
      (acts : ActAll file program schedule) where
    first_acts : (n : ℕ) → 1 ≤ n → ActsFor file program schedule t n →
        IsActing (step file program (source_run file program schedule) t).did
    first_acts n some each =
        subst (λ s. IsActing (step file program (source_run file program s) t).did) (append-nil schedule)
        (each 0 (omega (arith, some)))

    long_at : (n : ℕ) → 1 ≤ n → ActsFor file program schedule t n →
        ((k : ℕ) → k ≤ n → HasEnded file program schedule t k → ⊥) →
        most_steps ≤ length schedule + n → HasLongCall file program bound
    long_at n some each none long = record {
      schedule = schedule;
      thread = t;
      serial = serial;
      goes_on = record {
        steps = n;
        acts = acts_times file program schedule t n acts each;
        is_open = record { acts = first_acts n some each; none = none };
        long = inr long;
      };
    }

    pub long_waits : (call steps : ℕ) → WaitsWithin file program schedule t call steps →
        most_steps < length schedule + steps → HasLongCall file program bound
    long_waits call steps w long = long_at steps w.some w.acts
        (λ k few. never_ends_none file program schedule t call (waiting_never file program schedule t call steps w) k)
        (omega (arith, long))

    pub long_turns : (call : ℕ) → TurnsOn file program schedule t call → most_steps < length schedule + 1 →
        HasLongCall file program bound
    long_turns call w long = long_at 1 (omega arith) (λ j less. w.acts j)
        (λ k few. never_ends_none file program schedule t call w.never k) (omega (arith, long))

    pub long_ends : (steps : ℕ) (end : Event) → EndsWith file program schedule t steps end →
        most_steps < length schedule + steps → HasLongCall file program bound
    long_ends steps end w long = record {
      schedule = schedule;
      thread = t;
      serial = serial;
      goes_on = record {
        steps = w.ends.before;
        acts = acts_times file program schedule t w.ends.before acts
            (λ j less. w.ends.acts j (omega (arith, less, w.ends.is)));
        is_open = record {
          acts = first_acts steps (omega (arith, w.ends.is)) w.ends.acts;
          none = not_ended file program schedule t w.ends.call w.ends.before w.ends.begun;
        };
        long = inr (omega (arith, long, w.ends.is));
      };
    }

  -- ---- what comes of a thread's next call

  none_lost : (f : SerialFaults) → IsKeptIn f f
  none_lost f = record {
    throws = λ none. none;
    waits = λ none. none;
    turns = λ none. none;
    complete = λ all. all;
  }

  not_both : (b : Bool) (P : Type 0) → b ≡ true → b ≡ false → P
  not_both b P up down = absurd (apart (sym up ∙ down))
    where
      apart : true ≡ false → ⊥
      apart h = cc

  abbrev open_ended : SerialFaults → SerialFaults
  open_ended f = record { throws = f.throws; waits = f.waits; turns = f.turns; complete = false }

  -- a bound was met
  added_open : (bound : ℕ) (schedule : List ℕ) (t : ℕ) (f : SerialFaults) → HasLongCall file program bound →
      IsAdded file program bound schedule t f (open_ended f)
  added_open bound schedule t f long = record {
    faults = λ are. record { throws = are.throws; waits = are.waits; turns = are.turns };
    noted = λ up. not_both false (IsTried file program schedule t (open_ended f)) up refl;
    kept = record {
      throws = λ none. none;
      waits = λ none. none;
      turns = λ none. none;
      complete = λ up. not_both false (f.complete ≡ true) up refl;
    };
    why = λ up down. long;
  }

  module _ (bound : ℕ) (schedule : List ℕ) (t : ℕ) (f : SerialFaults) where
    pub added_stays : AreNoted file program bound schedule t fates.Stays f f
    added_stays serial acts still = record {
      faults = λ are. are;
      noted = λ up. tried_still file program schedule t f still;
      kept = none_lost f;
      why = λ up down. not_both f.complete (HasLongCall file program bound) up down;
    }

    pub added_goes_on : AreNoted file program bound schedule t fates.GoesOn f (open_ended f)
    added_goes_on serial acts goes =
        added_open bound schedule t f (open_long file program bound schedule t serial acts goes)

    pub added_waits : (call steps : ℕ) (new : Option Stopped) → IsNoted schedule t call steps f.waits new →
        AreNoted file program bound schedule t (fates.Waits call steps) f (record f { waits = new })
    added_waits call steps new noted serial acts w = record {
      faults = λ are. record {
        throws = are.throws;
        waits = noted_so file program schedule t call steps (IsWaiting file program) f.waits new
            (λ s at thread number. waits_so file program schedule t call steps w s at thread number serial acts)
            noted are.waits;
        turns = are.turns;
      };
      noted = λ up. tried_waits file program schedule t call steps (record f { waits = new }) w
          (noted_some file program schedule t call steps f.waits new noted);
      kept = record {
        throws = λ none. none;
        waits = λ none. absurd (noted_some file program schedule t call steps f.waits new noted none);
        turns = λ none. none;
        complete = λ all. all;
      };
      why = λ up down. not_both f.complete (HasLongCall file program bound) up down;
    }

    pub added_long_waits : (call steps : ℕ) (new : Option Stopped) → IsTooLong schedule steps f.waits new →
        AreNoted file program bound schedule t (fates.Waits call steps) f
        (record { throws = f.throws; waits = new; turns = f.turns; complete = false })
    added_long_waits call steps new long serial acts w =
        subst (λ o. IsAdded file program bound schedule t f
        (record { throws = f.throws; waits = o; turns = f.turns; complete = false })) (sym long.1)
        (added_open bound schedule t f (long_waits bound schedule t serial acts call steps w long.0))

    pub added_turns : (call : ℕ) (new : Option Stopped) → IsNoted schedule t call 1 f.turns new →
        AreNoted file program bound schedule t (fates.Turns call) f (record f { turns = new })
    added_turns call new noted serial acts w = record {
      faults = λ are. record {
        throws = are.throws;
        waits = are.waits;
        turns = noted_so file program schedule t call 1 (IsTurning file program) f.turns new
            (λ s at thread number. turns_so file program schedule t call w s at thread number serial acts)
            noted are.turns;
      };
      noted = λ up. tried_turns file program schedule t call (record f { turns = new }) w
          (noted_some file program schedule t call 1 f.turns new noted);
      kept = record {
        throws = λ none. none;
        waits = λ none. none;
        turns = λ none. absurd (noted_some file program schedule t call 1 f.turns new noted none);
        complete = λ all. all;
      };
      why = λ up down. not_both f.complete (HasLongCall file program bound) up down;
    }

    pub added_long_turns : (call : ℕ) (new : Option Stopped) → IsTooLong schedule 1 f.turns new →
        AreNoted file program bound schedule t (fates.Turns call) f
        (record { throws = f.throws; waits = f.waits; turns = new; complete = false })
    added_long_turns call new long serial acts w =
        subst (λ o. IsAdded file program bound schedule t f
        (record { throws = f.throws; waits = f.waits; turns = o; complete = false })) (sym long.1)
        (added_open bound schedule t f (long_turns bound schedule t serial acts call w long.0))

    pub added_ends : (steps : ℕ) (end : Event) (new : Option Thrown) →
        IsNotedThrown schedule t steps end f.throws new →
        AreNoted file program bound schedule t (fates.Ends steps end) f (record f { throws = new })
    added_ends steps end new noted serial acts w = record {
      faults = λ are. record {
        throws = thrown_so file program schedule t steps end (IsThrown file program) f.throws new
            (λ s at is. throws_so file program schedule t steps end w s at is serial acts) noted are.throws;
        waits = are.waits;
        turns = are.turns;
      };
      noted = λ up. tried_ends file program schedule t steps end (record f { throws = new }) w serial
          (λ kind is. thrown_some file program schedule t steps end f.throws new kind noted is);
      kept = record {
        throws = λ none. thrown_kept file program schedule t steps end f.throws new noted none;
        waits = λ none. none;
        turns = λ none. none;
        complete = λ all. all;
      };
      why = λ up down. not_both f.complete (HasLongCall file program bound) up down;
    }

    pub added_long_ends : (steps : ℕ) (end : Event) (new : Option Thrown) → IsTooLong schedule steps f.throws new →
        AreNoted file program bound schedule t (fates.Ends steps end) f
        (record { throws = new; waits = f.waits; turns = f.turns; complete = false })
    added_long_ends steps end new long serial acts w =
        subst (λ o. IsAdded file program bound schedule t f
        (record { throws = o; waits = f.waits; turns = f.turns; complete = false })) (sym long.1)
        (added_open bound schedule t f (long_ends bound schedule t serial acts steps end w long.0))

  -- ---- of threads, up to one

  pub all_none : (bound : ℕ) (schedule : List ℕ) (fates : List Fate) (f : SerialFaults) →
      AreAllNoted file program bound schedule fates 0 f f
  all_none bound schedule fates f serial acts each = record {
    faults = λ are. are;
    noted = λ t less. absurd (omega (arith, less));
    kept = none_lost f;
    why = λ up down. not_both f.complete (HasLongCall file program bound) up down;
  }

  pub all_more : (bound : ℕ) (schedule : List ℕ) (fates : List Fate) (n : ℕ) (fate : Fate)
      (old mid new : SerialFaults) → slice_get fates n ≡ Some fate →
      AreAllNoted file program bound schedule fates n old mid →
      AreNoted file program bound schedule n fate mid new →
      AreAllNoted file program bound schedule fates (n + 1) old new
  all_more bound schedule fates n fate old mid new at before last serial acts each =
      let b = before serial acts each in
      let l = last serial acts (each n fate at) in
      record {
        faults = λ are. l.faults (b.faults are);
        noted = λ t less. by_place b l t less (cases_lt t n);
        kept = kept_again old mid new b.kept l.kept;
        why = λ up down. why_either mid.complete (HasLongCall file program bound)
            (λ e. l.why e down) (λ e. b.why up e);
      }
    where
      by_place : AreAdded file program bound schedule n old mid → IsAdded file program bound schedule n mid new →
          (t : ℕ) → t < n + 1 → (t < n) ⊎ (n ≤ t) → HasNoted file program schedule t new
      by_place b l t less (inl lt) = tried_kept file program schedule t mid new l.kept (b.noted t lt)
      by_place b l t less (inr past) =
          let same : n ≡ t = omega (arith, less, past) in
          subst (λ m. HasNoted file program schedule m new) same l.noted

  -- ---- of states, up to a place

  abbrev pub AreTried : List ℕ → SerialFaults → Type 0
  AreTried schedule f = (t : ℕ) → t < length program.threads → HasNoted file program schedule t f

  abbrev pub AreNotedTo : List (List ℕ) → SerialFaults → ℕ → Type 0
  AreNotedTo ways f n = (i : ℕ) (way : List ℕ) → i < n → slice_get ways i ≡ Some way → AreTried way f

  pub ways_more : (ways : List (List ℕ)) (n : ℕ) (schedule : List ℕ) (old new : SerialFaults) →
      IsKeptIn old new →
      slice_get ways n ≡ Some schedule →
      AreNotedTo ways old n →
      AreTried schedule new →
      AreNotedTo ways new (n + 1)
  ways_more ways n schedule old new kept at before here i way less there = by_place (cases_lt i n)
    where
      some_is : {A : Type 0} {x y : A} → Some x ≡ Some y → x ≡ y
      some_is h = cc

      by_place : (i < n) ⊎ (n ≤ i) → AreTried way new
      by_place (inl lt) = λ t few. tried_kept file program way t old new kept (before i way lt there t few)
      by_place (inr past) =
          let same : n ≡ i = omega (arith, less, past) in
          let one : schedule ≡ way = some_is (sym at ∙ ap (slice_get ways) same ∙ there) in
          subst (λ x. AreTried x new) one here
