-- Where the states between calls are all known, so is each call that throws, waits for ever or turns for ever.
use Rattle.std.proofs.Common.{◌≡◌, inl, inr, ℕ, ◌+◌, ◌<◌, ◌≤◌, true, false, List, [], ◌∷◌, ◌++◌}
use Rattle.std.proofs.Common.{Some, None, ap, append-nil, append_assoc, arith}
use Rattle.std.proofs.Common.{refl, replicate, slice_get, subst, sym, ◌∙◌, length}
use Rattle.std.proofs.lemmas.List.{replicate-append-replicate}
use Rattle.ls_checked.specs.CheckedProgram.{Program}
use Rattle.ls_checked.specs.CheckedTree.{File}
use Rattle.ls_events.specs.declared.event.Event.{Event}
use Rattle.ls_events.specs.declared.kind.Kind.{Kind}
use Rattle.ls_meaning.specs.Steps.{run, trace}
use Rattle.ls_meaning.specs.Runs.{State, history_of, source_history, source_run, source_step, start, step}
use Rattle.ls_meaning.specs.Still.{IsActing, IsStill}
use Rattle.ls_serial.specs.Serial.{IsEndOf, IsSerial}
use Rattle.ls_serial.proofs.Lists.{get_within}
use Rattle.ls_search_laws.specs.Configuration.{Configuration, configuration_of, stride}
use Rattle.ls_search_laws.proofs.Renamed.{steps_stride}
use Rattle.ls_search_laws.proofs.Stepping.{run-append}
use Rattle.ls_search_laws.proofs.Telling.{long_of_all}
use Rattle.ls_serial_search.specs.Following.{called}
use Rattle.ls_serial_search.proofs.SoFar.{IsSoFar, pending_not_serial, same_end, so_far_call}
use Rattle.ls_serial_search.proofs.Stalls.{endless_within}
use Rattle.ls_automaton.specs.Automaton.{Serially}
use Rattle.ls_automaton.specs.Programs.{Leads}
use Rattle.ls_automaton.specs.States.{HaveOutcomes, ways_of}
use Rattle.ls_automaton.specs.declared.states.States.{States}
use Rattle.ls_automaton.proofs.Configurations.{goes_on_same, history_told, told, told_by, told_same}
use Rattle.ls_automaton.proofs.Numbers.{IsAlike, reached}
use Rattle.ls_automaton.proofs.Programs.{IsKnown, IsWithin, known, serially}
use Rattle.ls_automaton.proofs.Runs.{serially_serial}
use Rattle.ls_automaton.proofs.Settled.{ended_within}
use Rattle.ls_serial_faults.specs.Faults.{AreAllFaults, IsPendingAlone, ThrowsAlone, TurnsAlone, trapped}
use Rattle.ls_serial_faults.specs.Noted.{IsTried, ThrowsAfter, TurnsAfter, WaitsAfter}
use Rattle.ls_serial_faults.specs.declared.faults.SerialFaults.{SerialFaults}
use Rattle.ls_serial_faults.proofs.Adding.{AreNotedTo}
use Rattle.ls_serial_faults.proofs.FirstFaults.{throws_ended, turns_endless, waits_endless}

module _ (file : File) (program : Program) where
  abbrev leads : State → Event → Event → State → Type 0
  leads = Leads file program

  abbrev config : List ℕ → Configuration
  config x = configuration_of file program (source_run file program x)

  -- what a thread does depends on the configuration alone
  did_same : (x y : List ℕ) (t : ℕ) → config x ≡ config y →
      (step file program (source_run file program x) t).did ≡ (step file program (source_run file program y) t).did
  did_same x y t same =
      (steps_stride file program (source_run file program x) (long_of_all file program x) t).0
      ∙ ap (λ c. (stride file c t).did) same
      ∙ sym (steps_stride file program (source_run file program y) (long_of_all file program y) t).0

  -- the last call of a serial run
  record IsSplit (s : State) (g : List Event) (c e : Event) (last : State) : Type 0 where
    before : State
    serially : Serially leads s g before
    leads_to : leads before c e last

  split : (g : List Event) (s last : State) (c e : Event) → IsSerial g → Serially leads s (g ++ c ∷ e ∷ []) last →
      IsSplit s g c e last
  split [] s last c e serial k = record {
    before = s;
    serially = refl;
    leads_to = subst (leads s c e) k.4 k.3;
  }
  split (a ∷ []) s last c e serial k = absurd serial
  split (a ∷ b ∷ g) s last c e serial k =
      let r = split g k.2 last c e serial.2 k.4 in
      record { before = r.before; serially = (k.0, k.1, k.2, k.3, r.serially); leads_to = r.leads_to }

  -- ---- where all states are known

  module _ (bound : ℕ) (states : States) (have : HaveOutcomes file program bound states)
      (none_goes_on : states.goes_on ≡ false) (f : SerialFaults) (n : ℕ)
      (all : length states.fates.items ≤ n)
      (noted : AreNotedTo file program (ways_of states) f n) (complete : f.complete ≡ true) where
    abbrev Alike : State → ℕ → Type 0
    Alike = IsAlike file program bound states.goes_on states.rows.items have.outcomes

    tried_at : (m : ℕ) (way : List ℕ) (t : ℕ) → slice_get have.outcomes.spots m ≡ Some way →
        t < length program.threads → IsTried file program way t f
    tried_at m way t at few =
        let there : slice_get (ways_of states) m ≡ Some way = subst (λ w. slice_get w m ≡ Some way) have.ways at in
        noted m way (omega (arith, get_within (ways_of states) m way there, have.all, all)) there t few complete

    -- ---- a call that throws

    module _ (schedule : List ℕ) (t c : ℕ) (kind : Kind) (throws : ThrowsAlone file program schedule t c kind)
        (serial : IsSerial throws.before) where
      parts : IsSplit (start program) throws.before (called t c) (trapped t c kind) (source_run file program schedule)
      parts = split throws.before (start program) (source_run file program schedule) (called t c) (trapped t c kind)
          serial
          (subst (λ h. Serially leads (start program) h (source_run file program schedule)) throws.is
          (serially file program schedule throws.serial))

      at : (m : ℕ) × Alike parts.before m
      at = reached file program bound states.goes_on states.rows.items have.outcomes none_goes_on throws.before
          parts.before parts.serially

      abbrev way : List ℕ
      way = at.1.spot

      abbrev ts : List ℕ
      ts = replicate parts.leads_to.steps t

      after : ThrowsAfter file program way t c parts.leads_to.steps kind
      after = history_told file program way ts
          ∙ ap (λ l. source_history file program way ++ l)
          (sym (told_same file program at.1.path way at.1.same ts)
          ∙ ap (λ (z : State). history_of (trace (source_step file program) z ts)) (sym at.1.state)
          ∙ parts.leads_to.history)

      throws_not : f.throws ≡ None → ⊥
      throws_not none =
          (tried_at at.0 way t at.1.there (ended_within file program way t parts.leads_to.steps
          (throws_ended file program way t c parts.leads_to.steps kind after))).throws
          none c parts.leads_to.steps kind after

    -- ---- a call that is pending

    module _ (schedule : List ℕ) (t c : ℕ) (p : IsPendingAlone file program schedule t c) where
      within : IsWithin file program (source_run file program schedule) (source_history file program schedule)
      within = by_known ((known file program schedule).1
          (subst IsSoFar (sym p.is) (so_far_call p.before (called t c) p.serial refl)))
        where
          by_known : IsKnown file program (source_run file program schedule) (source_history file program schedule) →
              IsWithin file program (source_run file program schedule) (source_history file program schedule)
          by_known (inr w) = w
          by_known (inl at) = absurd (pending_not_serial p.before (called t c) p.serial
              (subst IsSerial p.is (serially_serial leads (start program) (source_run file program schedule)
              (source_history file program schedule) at)))

      call_is : within.call ≡ called t c
      call_is = (same_end within.calls p.before within.call (called t c) (sym within.history ∙ p.is)).1

      abbrev steps : ℕ
      steps = within.steps

      at' : (m : ℕ) × Alike within.before m
      at' = reached file program bound states.goes_on states.rows.items have.outcomes none_goes_on within.calls
          within.before within.serially

      abbrev from : List ℕ
      from = at'.1.path

      abbrev way' : List ℕ
      way' = at'.1.spot

      abbrev own : List ℕ
      own = replicate steps t

      thread_is : within.call.thread ≡ t
      thread_is = ap (λ (e : Event). e.thread) call_is

      tells : told file program from own ≡ called t c ∷ []
      tells = ap (λ (z : State). history_of (trace (source_step file program) z own)) (sym at'.1.state)
          ∙ ap (λ u. history_of (trace (source_step file program) within.before (replicate steps u))) (sym thread_is)
          ∙ within.own ∙ ap (λ e. e ∷ []) call_is

      begins : source_history file program (way' ++ own) ≡ source_history file program way' ++ called t c ∷ []
      begins = history_told file program way' own
          ∙ ap (λ l. source_history file program way' ++ l)
          (sym (told_same file program from way' at'.1.same own) ∙ tells)

      same : config schedule ≡ config (way' ++ own)
      same = ap (configuration_of file program)
          (within.state
          ∙ ap (λ u. run (source_step file program) within.before (replicate steps u)) thread_is
          ∙ ap (λ z. run (source_step file program) z own) at'.1.state
          ∙ sym (run-append (source_step file program) (start program) from own))
          ∙ goes_on_same file program from way' at'.1.same own

      waits_not : f.waits ≡ None → IsStill (step file program (source_run file program schedule) t).did → ⊥
      waits_not none still =
          let after : WaitsAfter file program way' t c steps = record {
            begins = begins;
            waits = subst IsStill (did_same schedule (way' ++ own) t same) still;
          } in
          (tried_at at'.0 way' t at'.1.there (endless_within file program way' t (called t c)
          (waits_endless file program way' t c steps after))).waits none c steps after

      more : (k : ℕ) → (way' ++ own) ++ replicate k t ≡ way' ++ replicate (steps + k) t
      more k = append_assoc way' own (replicate k t)
          ∙ ap (λ ts. way' ++ ts) (replicate-append-replicate steps k t)

      turns_not : f.turns ≡ None → TurnsAlone file program schedule t c → ⊥
      turns_not none turns =
          let after : TurnsAfter file program way' t c steps = record {
            begins = λ k. ap (source_history file program) (sym (more k))
                ∙ history_told file program (way' ++ own) (replicate k t)
                ∙ ap (λ l. source_history file program (way' ++ own) ++ l)
                (sym (told_same file program schedule (way' ++ own) same (replicate k t))
                ∙ told_by file program schedule (replicate k t) []
                (turns.quiet k ∙ sym (append-nil (source_history file program schedule))))
                ∙ append-nil (source_history file program (way' ++ own)) ∙ begins;
            acts = λ k. subst (λ s. IsActing (step file program (source_run file program s) t).did) (more k)
                (subst IsActing (did_same (schedule ++ replicate k t) ((way' ++ own) ++ replicate k t) t
                (goes_on_same file program schedule (way' ++ own) same (replicate k t))) (turns.acts k));
          } in
          (tried_at at'.0 way' t at'.1.there (endless_within file program way' t (called t c)
          (turns_endless file program way' t c steps after))).turns none c steps after

    pub all_faults : AreAllFaults file program f
    all_faults = record {
      throws = λ none schedule t c kind w. throws_not schedule t c kind w
          (serial_before w.before (called t c) (trapped t c kind) (subst IsSerial w.is w.serial)) none;
      waits = λ none schedule t c w. waits_not schedule t c w.pending none w.waits;
      turns = λ none schedule t c w. turns_not schedule t c w.pending none w;
    }
      where
        serial_before : (g : List Event) (c e : Event) → IsSerial (g ++ c ∷ e ∷ []) → IsSerial g
        serial_before [] c e serial = tt
        serial_before (a ∷ []) c e serial = absurd (no_end serial.1)
          where
            no_end : IsEndOf a c → ⊥
            no_end end = absurd (odd e [] serial.2)
              where
                odd : (x : Event) (l : List Event) → IsSerial (x ∷ []) → ⊥
                odd x l h = h
        serial_before (a ∷ b ∷ g) c e serial = (serial.0, serial.1, serial_before g c e serial.2)
