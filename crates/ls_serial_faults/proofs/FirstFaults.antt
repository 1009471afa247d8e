-- Calls that throw, wait for ever or turn for ever, and what is noted of them.
use Rattle.std.proofs.Common.{◌≡◌, Bool, ℕ, ◌+◌, true, false, List, [], ◌∷◌, ◌++◌}
use Rattle.std.proofs.Common.{Option, Some, None, IfSome, ap, append-nil, append_assoc, arith}
use Rattle.std.proofs.Common.{refl, replicate, subst, sym, ◌∙◌}
use Rattle.std.proofs.lemmas.List.{replicate-append-replicate}
use Rattle.ls_checked.specs.CheckedProgram.{Program}
use Rattle.ls_checked.specs.CheckedTree.{File}
use Rattle.ls_events.specs.declared.event.Event.{Event}
use Rattle.ls_events.specs.declared.event.Happening.{Happening}
use Rattle.ls_events.specs.declared.event.Happening.TheVariants.{Called, Returned, Trapped}
use Rattle.ls_events.specs.declared.kind.Kind.{Kind}
use Rattle.ls_meaning.specs.declared.step.Did.{Did}
use Rattle.ls_meaning.specs.declared.step.Did.TheVariants as did
use Rattle.ls_meaning.specs.Runs.{source_history, source_run, step}
use Rattle.ls_meaning.specs.Still.{IsActing, IsStill}
use Rattle.ls_search_laws.specs.Stepping.{ActAll}
use Rattle.ls_search_laws.proofs.Acting.{acts_times}
use Rattle.ls_serial.specs.Serial.{IsSerial}
use Rattle.ls_serial_search.specs.Endless.{IsEndlessAfter}
use Rattle.ls_serial_search.specs.Following.{called}
use Rattle.ls_serial_search.specs.Happened.{TurnsOn, WaitsWithin}
use Rattle.ls_serial_search.specs.Open.{HasEnded}
use Rattle.ls_serial_search.proofs.SoFar.{same_end}
use Rattle.ls_serial_search.proofs.Stalls.{begun_at, history_kept, never_called, never_ended, state_kept, waiting_never}
use Rattle.ls_automaton.specs.Fates.{EndsWith}
use Rattle.ls_automaton.proofs.Settled.{never_ends_none, one_end, still_ends_none}
use Rattle.ls_serial_faults.specs.Faults.{IsPendingAlone, IsThrown, IsTurning, IsWaiting}
use Rattle.ls_serial_faults.specs.Faults.{ThrowsAlone, TurnsAlone, WaitsAlone, trapped}
use Rattle.ls_serial_faults.specs.Noted.{HasNoted, IsKeptIn, IsNoted}
use Rattle.ls_serial_faults.specs.Noted.{IsNotedThrown, IsThrownBy, IsTried, ThrowsAfter, TurnsAfter}
use Rattle.ls_serial_faults.specs.Noted.{WaitsAfter}
use Rattle.ls_serial_faults.specs.declared.faults.SerialFaults.{SerialFaults}
use Rattle.ls_serial_faults.specs.declared.faults.Stopped.{Stopped}
use Rattle.ls_serial_faults.specs.declared.faults.Thrown.{Thrown}

no_some : {A : Type 0} (a : A) → Some a ≡ None → ⊥
no_some a is = cc

-- ---- what is noted once more

pub kept_again : (a b c : SerialFaults) → IsKeptIn a b → IsKeptIn b c → IsKeptIn a c
kept_again a b c m n = record {
  throws = λ none. m.throws (n.throws none);
  waits = λ none. m.waits (n.waits none);
  turns = λ none. m.turns (n.turns none);
  complete = λ all. m.complete (n.complete all);
}

-- it was so up to here, or it came with the last
pub why_either : (b : Bool) (P : Type 0) → (b ≡ true → P) → (b ≡ false → P) → P
why_either true P up down = up refl
why_either false P up down = down refl

module _ (file : File) (program : Program) where
  -- ---- a call that ends by an exception

  module _ (schedule : List ℕ) (t steps : ℕ) (end : Event) (w : EndsWith file program schedule t steps end) where
    abbrev own : Event
    own = called t w.ended.call

    end_is : w.ended.end ≡ end
    end_is = (same_end (source_history file program schedule ++ own ∷ []) w.last.front w.ended.end end
        (append_assoc (source_history file program schedule) (own ∷ []) (w.ended.end ∷ [])
        ∙ sym w.ended.is ∙ w.last.is)).1

    pub throws_so : (s : Thrown) → s.schedule ≡ schedule ++ replicate steps t →
        end ≡ trapped s.thread s.call s.kind →
        IsSerial (source_history file program schedule) →
        ActAll file program schedule →
        IsThrown file program s
    throws_so s at is serial acts = (
      subst (λ x. ThrowsAlone file program x s.thread s.call s.kind) (sym at) (record {
        before = source_history file program schedule;
        serial = w.ends.serial serial;
        is = w.ended.is ∙ ap (λ e. source_history file program schedule ++ own ∷ e ∷ []) (end_is ∙ is)
            ∙ ap (λ n. source_history file program schedule ++ called n w.ended.call ∷
            trapped s.thread s.call s.kind ∷ []) (sym w.ended.ends.thread ∙ ap (λ (e : Event). e.thread) (end_is ∙ is))
            ∙ ap (λ n. source_history file program schedule ++ called s.thread n ∷
            trapped s.thread s.call s.kind ∷ []) (sym w.ended.ends.call ∙ ap (λ (e : Event). e.call) (end_is ∙ is));
      }),
      subst (ActAll file program) (sym at) (acts_times file program schedule t steps acts w.ends.acts),
    )

    -- it throws if it throws with any number of steps
    pub throws_end : IsSerial (source_history file program schedule) → (c n : ℕ) (kind : Kind) →
        ThrowsAfter file program schedule t c n kind → end.happening ≡ Trapped kind
    throws_end serial c n kind throws =
        let same = one_end file program schedule t (source_history file program schedule) serial own w.ended.end
        (called t c) (trapped t c kind) refl w.ended.ends refl (record { ends = refl; thread = refl; call = refl })
        steps n w.ended.is throws in
        ap (λ (e : Event). e.happening) (sym end_is ∙ same.end)

  -- ---- what is noted of it

  module _ (schedule : List ℕ) (t steps : ℕ) (end : Event) where
    thrown_by_some : (h : Happening) (kind : Kind) (new : Option Thrown) → IsThrownBy schedule t steps end h new →
        h ≡ Trapped kind → new ≡ None → ⊥
    thrown_by_some Called kind new by is none = absurd (cc)
    thrown_by_some (Returned v) kind new by is none = absurd (cc)
    thrown_by_some (Trapped k) kind new by is none = no_some by.thrown (sym by.is ∙ none)

    pub thrown_some : (old new : Option Thrown) (kind : Kind) → IsNotedThrown schedule t steps end old new →
        end.happening ≡ Trapped kind → new ≡ None → ⊥
    thrown_some None new kind by is none = thrown_by_some end.happening kind new by is none
    thrown_some (Some s) new kind by is none = no_some s (sym by ∙ none)

    thrown_by_so : (P : Thrown → Type 0) (h : Happening) (new : Option Thrown) →
        ((s : Thrown) → s.schedule ≡ schedule ++ replicate steps t → end ≡ trapped s.thread s.call s.kind → P s) →
        IsThrownBy schedule t steps end h new →
        IfSome new P
    thrown_by_so P Called new so none = subst (λ o. IfSome o P) (sym none) tt
    thrown_by_so P (Returned v) new so none = subst (λ o. IfSome o P) (sym none) tt
    thrown_by_so P (Trapped k) new so by =
        subst (λ o. IfSome o P) (sym by.is) (so by.thrown by.schedule_is by.end_is)

    pub thrown_so : (P : Thrown → Type 0) (old new : Option Thrown) →
        ((s : Thrown) → s.schedule ≡ schedule ++ replicate steps t → end ≡ trapped s.thread s.call s.kind → P s) →
        IsNotedThrown schedule t steps end old new →
        IfSome old P →
        IfSome new P
    thrown_so P None new so by has = thrown_by_so P end.happening new so by
    thrown_so P (Some s) new so is has = subst (λ o. IfSome o P) (sym is) has

    -- what is noted is noted still
    pub thrown_kept : (old new : Option Thrown) → IsNotedThrown schedule t steps end old new → new ≡ None → old ≡ None
    thrown_kept None new by none = refl
    thrown_kept (Some s) new is none = absurd (no_some s (sym is ∙ none))

  -- ---- a call that waits

  module _ (schedule : List ℕ) (t call steps : ℕ) (w : WaitsWithin file program schedule t call steps) where
    abbrev after : ℕ → List ℕ
    after n = schedule ++ replicate n t

    waits_at : IsPendingAlone file program (after steps) t call → WaitsAlone file program (after steps) t call
    waits_at pending = record { pending = pending; waits = w.waits }

    pub pending_at : IsSerial (source_history file program schedule) →
        IsPendingAlone file program (after steps) t call
    pending_at serial = record {
      before = source_history file program schedule;
      serial = serial;
      is = begun_at file program schedule t call steps w.begun w.some;
    }

    pub waits_so : (s : Stopped) → s.schedule ≡ after steps → s.thread ≡ t → s.call ≡ call →
        IsSerial (source_history file program schedule) →
        ActAll file program schedule →
        IsWaiting file program s
    waits_so s at thread number serial acts = (
      subst (λ x. WaitsAlone file program x s.thread s.call) (sym at)
          (subst (λ m. WaitsAlone file program (after steps) m s.call) (sym thread)
          (subst (WaitsAlone file program (after steps) t) (sym number) (waits_at (pending_at serial)))),
      subst (ActAll file program) (sym at) (acts_times file program schedule t steps acts w.acts),
    )

    -- it doesn't turn for ever
    pub waits_not_turns : (c n : ℕ) → TurnsAfter file program schedule t c n → ⊥
    waits_not_turns c n turns =
        let e : n + steps ≡ n + steps = refl in
        by_did (step file program (source_run file program (after (n + steps))) t).did
        (subst (λ s. IsStill (step file program s t).did) (sym (state_kept file program schedule t steps n w.waits))
        w.waits)
        (turns.acts steps)
      where
        by_did : (d : Did) → IsStill d → IsActing d → ⊥
        by_did (did.Acted a x) still acts = still
        by_did did.Waits still acts = acts
        by_did did.Idle still acts = acts

  -- ---- a call that turns for ever

  module _ (schedule : List ℕ) (t call : ℕ) (w : TurnsOn file program schedule t call) where
    abbrev behind : ℕ → List ℕ
    behind n = schedule ++ replicate n t

    begins : (n : ℕ) → source_history file program (behind (n + 1)) ≡
        source_history file program schedule ++ called t call ∷ []
    begins n = (w.never (n + 1)).is n (omega arith)

    more : (n : ℕ) → behind 1 ++ replicate n t ≡ behind (n + 1)
    more n =
        let e : 1 + n ≡ n + 1 = omega arith in
        append_assoc schedule (replicate 1 t) (replicate n t)
        ∙ ap (λ ts. schedule ++ ts) (replicate-append-replicate 1 n t)
        ∙ ap behind e

    turns_at : IsSerial (source_history file program schedule) → TurnsAlone file program (behind 1) t call
    turns_at serial = record {
      pending = record { before = source_history file program schedule; serial = serial; is = begins 0 };
      acts = λ n. subst (λ s. IsActing (step file program (source_run file program s) t).did) (sym (more n))
          (w.acts (n + 1));
      quiet = λ n. ap (source_history file program) (more n) ∙ begins n ∙ sym (begins 0);
    }

    pub turns_so : (s : Stopped) → s.schedule ≡ behind 1 → s.thread ≡ t → s.call ≡ call →
        IsSerial (source_history file program schedule) →
        ActAll file program schedule →
        IsTurning file program s
    turns_so s at thread number serial acts = (
      subst (λ x. TurnsAlone file program x s.thread s.call) (sym at)
          (subst (λ m. TurnsAlone file program (behind 1) m s.call) (sym thread)
          (subst (TurnsAlone file program (behind 1) t) (sym number) (turns_at serial))),
      subst (ActAll file program) (sym at) (acts_times file program schedule t 1 acts (λ j less. w.acts j)),
    )

    -- it doesn't wait
    pub turns_not_waits : (c n : ℕ) → WaitsAfter file program schedule t c n → ⊥
    turns_not_waits c n waits =
        by_did (step file program (source_run file program (behind n)) t).did waits.waits (w.acts n)
      where
        by_did : (d : Did) → IsStill d → IsActing d → ⊥
        by_did (did.Acted a x) still acts = still
        by_did did.Waits still acts = acts
        by_did did.Idle still acts = acts

  -- ---- what is noted of a call that never ends

  module _ (schedule : List ℕ) (t call steps : ℕ) where
    pub noted_some : (old new : Option Stopped) → IsNoted schedule t call steps old new → new ≡ None → ⊥
    noted_some None new first none = no_some first.stopped (sym first.is ∙ none)
    noted_some (Some s) new is none = no_some s (sym is ∙ none)

    -- it is so if it is so of one that is noted first
    pub noted_so : (P : Stopped → Type 0) (old new : Option Stopped) →
        ((s : Stopped) → s.schedule ≡ schedule ++ replicate steps t → s.thread ≡ t → s.call ≡ call → P s) →
        IsNoted schedule t call steps old new →
        IfSome old P →
        IfSome new P
    noted_so P None new so first has = subst (λ o. IfSome o P) (sym first.is)
        (so first.stopped first.schedule_is first.thread_is first.call_is)
    noted_so P (Some s) new so is has = subst (λ o. IfSome o P) (sym is) has

  -- ---- calls that never end, and others

  module _ (schedule : List ℕ) (t c n : ℕ) where
    pub waits_endless : WaitsAfter file program schedule t c n → IsEndlessAfter file program schedule t (called t c)
    waits_endless w = record {
      steps = n;
      never = λ k.
          let e : n + k ≡ k + n = omega arith in
          ap (λ m. source_history file program (schedule ++ replicate m t)) e
          ∙ history_kept file program schedule t n k w.waits ∙ w.begins;
    }

    pub turns_endless : TurnsAfter file program schedule t c n → IsEndlessAfter file program schedule t (called t c)
    turns_endless w = record { steps = n; never = w.begins }

  abbrev IsStillFirst : List ℕ → ℕ → Type 0
  IsStillFirst schedule t = IsStill (step file program (source_run file program schedule) t).did

  still_at : (schedule : List ℕ) (t : ℕ) → IsStillFirst schedule t → IsStillFirst (schedule ++ []) t
  still_at schedule t still = subst (λ s. IsStillFirst s t) (sym (append-nil schedule)) still

  -- a call that throws has ended
  pub throws_ended : (schedule : List ℕ) (t c n : ℕ) (kind : Kind) → ThrowsAfter file program schedule t c n kind →
      HasEnded file program schedule t n
  throws_ended schedule t c n kind throws = record {
    call = c;
    end = trapped t c kind;
    ends = record { ends = refl; thread = refl; call = refl };
    is = throws;
  }

  -- nothing comes of a thread that doesn't act
  pub tried_still : (schedule : List ℕ) (t : ℕ) (f : SerialFaults) → IsStillFirst schedule t →
      IsTried file program schedule t f
  tried_still schedule t f still = record {
    throws = λ none c n kind w. still_ends_none file program schedule t (still_at schedule t still) n
        (throws_ended schedule t c n kind w);
    waits = λ none c n w. never_called file program schedule t (called t c) (still_at schedule t still)
        (waits_endless schedule t c n w);
    turns = λ none c n w. never_called file program schedule t (called t c) (still_at schedule t still)
        (turns_endless schedule t c n w);
  }

  -- nor of a call that ends, if it is noted where it throws
  pub tried_ends : (schedule : List ℕ) (t k : ℕ) (end : Event) (f : SerialFaults) →
      EndsWith file program schedule t k end →
      IsSerial (source_history file program schedule) →
      ((kind : Kind) → end.happening ≡ Trapped kind → f.throws ≡ None → ⊥) →
      IsTried file program schedule t f
  tried_ends schedule t k end f w serial some = record {
    throws = λ none c n kind throws. some kind (throws_end schedule t k end w serial c n kind throws) none;
    waits = λ none c n x. never_ended file program schedule t (called t c) k w.ended
        (waits_endless schedule t c n x);
    turns = λ none c n x. never_ended file program schedule t (called t c) k w.ended
        (turns_endless schedule t c n x);
  }

  pub tried_waits : (schedule : List ℕ) (t call steps : ℕ) (f : SerialFaults) →
      WaitsWithin file program schedule t call steps →
      (f.waits ≡ None → ⊥) →
      IsTried file program schedule t f
  tried_waits schedule t call steps f w some = record {
    throws = λ none c n kind throws. never_ends_none file program schedule t call
        (waiting_never file program schedule t call steps w) n (throws_ended schedule t c n kind throws);
    waits = λ none. absurd (some none);
    turns = λ none c n turns. waits_not_turns schedule t call steps w c n turns;
  }

  pub tried_turns : (schedule : List ℕ) (t call : ℕ) (f : SerialFaults) → TurnsOn file program schedule t call →
      (f.turns ≡ None → ⊥) →
      IsTried file program schedule t f
  tried_turns schedule t call f w some = record {
    throws = λ none c n kind throws. never_ends_none file program schedule t call w.never n
        (throws_ended schedule t c n kind throws);
    waits = λ none c n waits. turns_not_waits schedule t call w c n waits;
    turns = λ none. absurd (some none);
  }

  -- what was noted is noted still
  pub tried_kept : (schedule : List ℕ) (t : ℕ) (old new : SerialFaults) → IsKeptIn old new →
      HasNoted file program schedule t old →
      HasNoted file program schedule t new
  tried_kept schedule t old new kept noted all =
      let tried = noted (kept.complete all) in record {
        throws = λ none. tried.throws (kept.throws none);
        waits = λ none. tried.waits (kept.waits none);
        turns = λ none. tried.turns (kept.turns none);
      }
