-- Calls that don't end, for so many steps of their thread.
use Rattle.std.proofs.Common.{◌≡◌, ◌⊎◌, inl, inr, ℕ, zero, suc, ◌+◌, ◌-◌, ◌<◌, ◌≤◌, true, false, List, [], ◌∷◌, ◌++◌}
use Rattle.std.proofs.Common.{length, replicate, sym, ap, ◌∙◌, subst, arith, append-nil, append_assoc}
use Rattle.std.proofs.lemmas.Bool.{cases_lt}
use Rattle.std.proofs.lemmas.List.{length-append, length-replicate}
use Rattle.ls_events.specs.Limits.{most_steps}
use Rattle.ls_events.specs.declared.event.Event.{Event}
use Rattle.ls_checked.specs.CheckedTree.{File}
use Rattle.ls_checked.specs.CheckedProgram.{Program}
use Rattle.ls_meaning.specs.declared.step.Did.{Did}
use Rattle.ls_meaning.specs.declared.step.Did.TheVariants as did
use Rattle.ls_meaning.specs.Still.{IsActing}
use Rattle.ls_meaning.specs.Runs.{source_history, source_run, step}
use Rattle.ls_serial.specs.Serial.{IsEnd, IsSerial}
use Rattle.ls_search_laws.specs.Stepping.{ActAll}
use Rattle.ls_search_laws.proofs.Acting.{acts_times}
use Rattle.ls_serial_search.specs.Following.{IsBegun, called, events_of}
use Rattle.ls_serial_search.specs.Happened.{ActsFor, IsLast}
use Rattle.ls_serial_search.specs.Laws.{LongCallsAreRuns}
use Rattle.ls_serial_search.specs.Open.{HasEnded, HasLongCall, IsLongAfter, IsOpen}
use Rattle.ls_serial_search.proofs.Answering.{between_acts}
use Rattle.ls_serial_search.proofs.Between.{all_between}
use Rattle.ls_serial_search.proofs.Stepping.{history_more, steps_more}

-- ---- two events after a history

one_is_no_two : (h : List Event) (x c e : Event) → h ++ x ∷ [] ≡ h ++ c ∷ e ∷ [] → ⊥
one_is_no_two [] x c e is = cc
one_is_no_two (z ∷ h) x c e is = one_is_no_two h x c e (cc)

none_is_no_two : (h : List Event) (c e : Event) → h ≡ h ++ c ∷ e ∷ [] → ⊥
none_is_no_two [] c e is = cc
none_is_no_two (z ∷ h) c e is = none_is_no_two h c e (cc)

-- a call is no end
pub not_end : (t k : ℕ) → IsEnd (called t k) → ⊥
not_end t k ends = not_both ends
  where
    not_both : true ≡ false → ⊥
    not_both h = cc

-- a step with an event acts
pub acting : (t : ℕ) (d : Did) (e : Event) → events_of t d ≡ e ∷ [] → IsActing d
acting t (did.Acted action answer) e is = tt
acting t did.Waits e is = absurd (nothing is)
  where
    nothing : {x : Event} → [] ≡ x ∷ [] → ⊥
    nothing h = cc
acting t did.Idle e is = absurd (nothing is)
  where
    nothing : {x : Event} → [] ≡ x ∷ [] → ⊥
    nothing h = cc

module _ (file : File) (program : Program) (schedule : List ℕ) (t : ℕ) where
  abbrev h : List Event
  h = source_history file program schedule

  abbrev h_at : ℕ → List Event
  h_at n = source_history file program (schedule ++ replicate n t)

  -- where the call has begun and has no end yet
  pub not_ended : (call j : ℕ) → IsBegun file program schedule t call j → (n : ℕ) → n ≤ j →
      ¬ HasEnded file program schedule t n
  not_ended call j begun zero le ended = none_is_no_two h (called t ended.call) ended.end
      (ap (source_history file program) (sym (append-nil schedule)) ∙ ended.is)
  not_ended call j begun (suc n) le ended = one_is_no_two h (called t call) (called t ended.call) ended.end
      (sym (ap h_at (suc_is n) ∙ begun.is n (omega arith)) ∙ ended.is)
    where
      suc_is : (i : ℕ) → suc i ≡ i + 1
      suc_is i = omega arith

  abbrev IsAt : Did → ℕ → Type 0
  IsAt d j = d ≡ (step file program (source_run file program (schedule ++ replicate j t)) t).did

  first_acts : (d : Did) → IsAt d 0 → IsActing d → IsActing (step file program (source_run file program schedule) t).did
  first_acts d at acts = subst IsActing
      (at ∙ ap (λ ts. (step file program (source_run file program ts) t).did) (append-nil schedule)) acts

  -- ---- what can't be: a thread between its calls acts by a call

  first_calls : (d : Did) → IsAt d 0 → IsActing d → IsSerial h → (k : ℕ) × (events_of t d ≡ called t k ∷ [])
  first_calls d at acts serial =
      let is : d ≡ (step file program (source_run file program schedule) t).did =
      at ∙ ap (λ ts. (step file program (source_run file program ts) t).did) (append-nil schedule) in
      let k = between_acts file program (source_run file program schedule) t
      (all_between file program schedule serial t) (subst IsActing is acts) in
      (k.0, ap (events_of t) is ∙ k.1)

  pub silent_first : (d : Did) → IsAt d 0 → IsActing d → events_of t d ≡ [] → IsSerial h → ⊥
  silent_first d at acts none serial = let k = first_calls d at acts serial in nothing (sym none ∙ k.1)
    where
      nothing : {x : Event} → [] ≡ x ∷ [] → ⊥
      nothing e = cc

  pub ends_first : (d : Did) (call : ℕ) → IsAt d 0 → IsLast t call (events_of t d) → IsSerial h → ⊥
  ends_first d call at last serial =
      let k = first_calls d at (acting t d last.end last.is) serial in
      not_end t k.0 (subst IsEnd (only (sym last.is ∙ k.1)) last.ends.ends)
    where
      only : {x y : Event} → x ∷ [] ≡ y ∷ [] → x ≡ y
      only e = cc

  -- ---- a call without its end

  module _ (first : Did) (at_first : IsAt first 0) (call : ℕ) (begins : events_of t first ≡ called t call ∷ []) where
    pub past_bound : (most j : ℕ) → most ≤ j → IsBegun file program schedule t call j →
        ActsFor file program schedule t j →
        IsOpen file program schedule t most × ActsFor file program schedule t most
    past_bound most j le begun each = (
      record {
        acts = first_acts first at_first (acting t first (called t call) begins);
        none = λ n few. not_ended call j begun n (omega arith);
      },
      λ i less. each i (omega (arith, le, less)),
    )

    module _ (d : Did) (j : ℕ) (at : IsAt d j) (some : 1 ≤ j) (begun : IsBegun file program schedule t call j) where
      -- with one event more
      two_events : (y : Event) → events_of t d ≡ y ∷ [] → h_at (j + 1) ≡ h ++ called t call ∷ y ∷ []
      two_events y is =
          ap (source_history file program) (sym (steps_more schedule t j))
          ∙ history_more file program (schedule ++ replicate j t) t
          ∙ ap (λ x. h_at j ++ events_of t x) (sym at)
          ∙ ap (λ es. h_at j ++ es) is
          ∙ ap (λ l. l ++ y ∷ []) (ap h_at (back j some) ∙ begun.is (j - 1) (omega arith))
          ∙ append_assoc h (called t call ∷ []) (y ∷ [])
        where
          back : (i : ℕ) → 1 ≤ i → i ≡ (i - 1) + 1
          back i le = omega arith

      pub ends_own : IsLast t call (events_of t d) → HasEnded file program schedule t (j + 1)
      ends_own last = record {
        call = call;
        end = last.end;
        ends = last.ends;
        is = two_events last.end last.is;
      }

-- ---- steps that act

module _ (file : File) (program : Program) (schedule : List ℕ) (t : ℕ) where
  abbrev ActsAt : ℕ → Type 0
  ActsAt j = IsActing (step file program (source_run file program (schedule ++ replicate j t)) t).did

  -- a step with an event acts
  pub acts_by : (d : Did) (j : ℕ) (e : Event) →
      d ≡ (step file program (source_run file program (schedule ++ replicate j t)) t).did → events_of t d ≡ e ∷ [] →
      ActsAt j
  acts_by d j e at is = subst IsActing at (acting t d e is)

  pub acts_first : ActsAt 0 → ActsFor file program schedule t 1
  acts_first acts j less = let none : 0 ≡ j = omega (arith, less) in subst ActsAt none acts

  pub acts_next : (j : ℕ) → ActsFor file program schedule t j → ActsAt j → ActsFor file program schedule t (j + 1)
  acts_next j each acts i less = by_place (cases_lt i j)
    where
      by_place : (i < j) ⊎ (j ≤ i) → ActsAt i
      by_place (inl before) = each i before
      by_place (inr past) = let same : j ≡ i = omega (arith, less, past) in subst ActsAt same acts

-- ---- calls that are too long

pub is_long : (file : File) (program : Program) (schedule : List ℕ) (t bound room most : ℕ) →
    room ≡ most_steps - length schedule →
    (most ≡ bound) ⊎ (most ≡ room) →
    ActAll file program schedule →
    IsOpen file program schedule t most × ActsFor file program schedule t most →
    IsLongAfter file program bound schedule t
is_long file program schedule t bound room most of_room is acts so = record {
  steps = most;
  acts = acts_times file program schedule t most acts so.1;
  is_open = so.0;
  long = by_least is;
}
  where
    by_least : (most ≡ bound) ⊎ (most ≡ room) → (bound ≤ most) ⊎ (most_steps ≤ length schedule + most)
    by_least (inl e) = inl (omega (arith, e))
    by_least (inr e) = inr (omega (arith, e, of_room))

-- so it is where calls ran one at a time before
pub is_long_call : (file : File) (program : Program) (schedule : List ℕ) (t bound : ℕ) →
    IsSerial (source_history file program schedule) →
    IsLongAfter file program bound schedule t →
    HasLongCall file program bound
is_long_call file program schedule t bound serial long =
    record { schedule = schedule; thread = t; serial = serial; goes_on = long }

-- it ends a run of so many steps
pub long_run : LongCallsAreRuns
long_run file program bound h =
    (h.schedule ++ replicate h.goes_on.steps h.thread, h.goes_on.acts, by_long h.goes_on.long)
  where
    many : length (h.schedule ++ replicate h.goes_on.steps h.thread) ≡ length h.schedule + h.goes_on.steps
    many = length-append h.schedule (replicate h.goes_on.steps h.thread)
        ∙ ap (λ n. length h.schedule + n) (length-replicate h.goes_on.steps h.thread)

    by_long : (bound ≤ h.goes_on.steps) ⊎ (most_steps ≤ length h.schedule + h.goes_on.steps) →
        (bound ≤ length (h.schedule ++ replicate h.goes_on.steps h.thread))
        ⊎ (most_steps ≤ length (h.schedule ++ replicate h.goes_on.steps h.thread))
    by_long (inl le) = inl (omega (arith, le, many))
    by_long (inr le) = inr (omega (arith, le, many))
