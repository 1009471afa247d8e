-- The machine's steps for a setup that ends in the source end it on the machine.
use Rattle.std.proofs.Common.{◌≡◌, ℕ, zero, suc, ◌+◌, ◌-◌, ◌<◌, ◌≤◌, Bool, true, false, List, [], ◌∷◌, ◌++◌, length}
use Rattle.std.proofs.Common.{map, replicate, Option, Some, None, refl, sym, ap, ◌∙◌, subst, arith, append-nil}
use Rattle.std.proofs.Common.{slice_get, slice_set, if◌then◌else◌}
use Rattle.std.proofs.lemmas.Bool.Decides.{nat_tests}
use Rattle.std.proofs.lemmas.List.{map-append, replicate-append-replicate}
use Rattle.ls_events.specs.declared.value.Value.{Value}
use Rattle.ls_events.specs.declared.action.Action.{Action}
use Rattle.ls_events.specs.declared.action.Answer.{Answer}
use Rattle.ls_checked.specs.CheckedTree.{File}
use Rattle.ls_checked.specs.CheckedProgram.{Program}
use Rattle.ls_meaning.specs.Steps.{Entry, Stepped, Same, after, run}
use Rattle.ls_meaning.specs.Threads.{Next, Goes, Ended, Trapped}
use Rattle.ls_meaning.specs.Runs.{State, start, source_run, source_step, step, stepped, has_ended as next_ended}
use Rattle.ls_meaning.specs.declared.step.Did.{Did}
use Rattle.ls_meaning.specs.declared.step.Did.TheVariants as did
use Rattle.ls_code.specs.Code.{Code}
use Rattle.ls_code.specs.Thread.{Thread}
use Rattle.ls_code.specs.Steps.{performed, thread_move}
use Rattle.ls_code.specs.Machine.{Machine, Entry as MachineEntry, loaded, started, has_ended, is_due, machine_run}
use Rattle.ls_code.specs.Machine.{machine_step, machine_trace, machine_state, mode_state, running_state, setup_ended}
use Rattle.ls_code.specs.Machine.{state_in, due_step, open_step, step_of, stops, traced}
use Rattle.ls_code.specs.declared.step.Mode.{Mode}
use Rattle.ls_code.specs.declared.step.Mode.TheVariants as mode
use Rattle.ls_code.specs.declared.step.Did.{Did as MachineDid}
use Rattle.ls_code.specs.declared.step.Did.TheVariants as machine_did
use Rattle.ls_code.specs.declared.step.ThreadState.{ThreadState}
use Rattle.ls_code.specs.declared.step.ThreadState.TheVariants as state
use Rattle.ls_preservation.specs.Same.{Fits, IsCells, total}
use Rattle.ls_preservation.specs.Translations.{has_setup_ended, most_silent, setup_end, steps_for, steps_from}
use Rattle.ls_preservation.specs.Translations.{to_machine}
use Rattle.ls_preservation.specs.Translations.{to_source, until_acts, until_over, unless, if_silent}
use Rattle.ls_preservation.proofs.Lists.{get_map, get_there, set_other, set_same}
use Rattle.ls_preservation.proofs.Runs.{run-append, trace-append}
use Rattle.ls_preservation.proofs.Shorter.{shorter}
use Rattle.ls_preservation.specs.InTime.{EndsInTime, StandsAs, next_of}
use Rattle.ls_preservation.specs.Acting.{ActsInTime, ActsAs, StepsAs, acts_or_stops, first_did, has_room, or_later}
use Rattle.ls_explore.specs.Explored.{SetsUp}
use Rattle.ls_explore.proofs.Open.{IsReady}
use Rattle.ls_explore.proofs.SettingUp.{one_more}
use Rattle.ls_explore.proofs.SourceSteps as source_steps

-- ---- the machine's thread 0

-- a machine has a setup
pub HasSetup : Machine → Type 0
HasSetup m = (x : Thread) × (slice_get m.threads 0 ≡ Some x)

-- a machine that has stopped stays as it is
stopped_step : (m : Machine) (t : ℕ) → m.stopped ≡ true → (machine_step m t).machine ≡ m
stopped_step m t e = by_thread (slice_get m.threads t)
  where
    by_thread : (o : Option Thread) → (step_of m t o).machine ≡ m
    by_thread None = refl
    by_thread (Some x) = ap (λ b. (open_step m t x b).machine) e

stopped_run : (m : Machine) (ts : List ℕ) → m.stopped ≡ true → machine_run m ts ≡ m
stopped_run m [] e = refl
stopped_run m (t ∷ ts) e = ap (λ z. machine_run z ts) (stopped_step m t e) ∙ stopped_run m ts e

-- a step keeps the setup
setup_step : (m : Machine) (t : ℕ) → HasSetup m → HasSetup (machine_step m t).machine
unfolding HasSetup
setup_step m t h = by_thread (slice_get m.threads t) refl
  where
    set_there : (t : ℕ) (x y : Thread) →
        slice_get m.threads t ≡ Some x →
        (z : Thread) × (slice_get (slice_set m.threads t y) 0 ≡ Some z)
    set_there zero x y at = (y, set_same m.threads 0 x y at)
    set_there (suc t) x y at = (h.0, set_other m.threads (suc t) 0 y (λ e. absurd cc) ∙ h.1)

    by_due : (x : Thread) (b : Bool) →
        slice_get m.threads t ≡ Some x →
        (z : Thread) × (slice_get (due_step m t x b).machine.threads 0 ≡ Some z)
    by_due x false at = h
    by_due x true at = set_there t x (performed m.cells t x (thread_move m.code x)).thread at

    by_stopped : (x : Thread) (b : Bool) →
        slice_get m.threads t ≡ Some x →
        (z : Thread) × (slice_get (open_step m t x b).machine.threads 0 ≡ Some z)
    by_stopped x true at = h
    by_stopped x false at = by_due x (is_due m.threads t x) at

    by_thread : (o : Option Thread) →
        slice_get m.threads t ≡ o →
        (z : Thread) × (slice_get (step_of m t o).machine.threads 0 ≡ Some z)
    by_thread None at = h
    by_thread (Some x) at = by_stopped x m.stopped at

setup_run : (m : Machine) (ts : List ℕ) → HasSetup m → HasSetup (machine_run m ts)
setup_run m [] h = h
setup_run m (t ∷ ts) h = setup_run (machine_step m t).machine ts (setup_step m t h)

-- a machine with a setup that stands as ended
ended_ready : (m : Machine) → HasSetup m → machine_state m 0 ≡ state.Ended → IsReady m
unfolding HasSetup
ended_ready m h stands = by_stop m.stopped refl (ap (state_in m 0) (sym h.1) ∙ stands)
  where
    by_mode : (z : Mode) → mode_state z ≡ state.Ended → has_ended z ≡ true
    by_mode mode.Running e = absurd cc
    by_mode mode.Ended e = refl
    by_mode mode.Trapped e = absurd cc

    by_stop : (b : Bool) →
        m.stopped ≡ b →
        (if b then state.Stopped else running_state m 0 h.0) ≡ state.Ended →
        IsReady m
    by_stop true e is = absurd cc
    by_stop false e is = record { goes = e; ready = ap setup_ended h.1 ∙ by_mode h.0.mode is }

-- ---- the end of the machine's setup

-- if it has ended after so many steps, it has ended after its steps until then
over_ready : (n : ℕ) (m : Machine) → IsReady (machine_run m (replicate n 0)) → IsReady (machine_run m (until_over n m))
over_ready zero m h = h
over_ready (suc n) m h = by_end (over_ready n (machine_step m 0).machine h) (setup_ended (slice_get m.threads 0)) refl
  where
    not_stopped : (b : Bool) → m.stopped ≡ b → m.stopped ≡ false
    not_stopped true e = ap (λ (z : Machine). z.stopped) (sym (stopped_run m (replicate (suc n) 0) e)) ∙ h.goes
    not_stopped false e = e

    by_end : IsReady (machine_run (machine_step m 0).machine (until_over n (machine_step m 0).machine)) →
        (b : Bool) →
        setup_ended (slice_get m.threads 0) ≡ b →
        IsReady (machine_run m (unless b (0 ∷ until_over n (machine_step m 0).machine)))
    by_end rest true e = record { goes = not_stopped m.stopped refl; ready = e }
    by_end rest false e = rest

-- a thread whose source has ended stands as ended
ended_stands : (x : Next) (s : ThreadState) → next_ended x ≡ true → StandsAs x s → s ≡ state.Ended
ended_stands (Goes action sort) s e h = absurd cc
ended_stands Ended s e h = h
ended_stands Trapped s e h = absurd cc

-- ---- one acting step of a thread

-- a step that acts doesn't stop the machine
acted_goes : (m : Machine) (t : ℕ) (a : Action ℕ) (x : Answer ℕ) →
    m.stopped ≡ false →
    (machine_step m t).did ≡ machine_did.Acted a x →
    (machine_step m t).machine.stopped ≡ false
acted_goes m t a x goes e = by_thread (slice_get m.threads t) (ap stops e)
  where
    by_due : (y : Thread) (b : Bool) → stops (due_step m t y b).did ≡ false → (due_step m t y b).machine.stopped ≡ false
    by_due y false h = goes
    by_due y true h = h

    by_stopped : (y : Thread) (b : Bool) →
        m.stopped ≡ b →
        stops (open_step m t y b).did ≡ false →
        (open_step m t y b).machine.stopped ≡ false
    by_stopped y true is h = goes
    by_stopped y false is h = by_due y (is_due m.threads t y) h

    by_thread : (o : Option Thread) → stops (step_of m t o).did ≡ false → (step_of m t o).machine.stopped ≡ false
    by_thread None h = goes
    by_thread (Some y) h = by_stopped y m.stopped refl h

-- a silent step doesn't either
silent_goes : (m : Machine) (t : ℕ) →
    m.stopped ≡ false →
    (machine_step m t).did ≡ machine_did.Silent →
    (machine_step m t).machine.stopped ≡ false
silent_goes m t goes e = by_thread (slice_get m.threads t) (ap stops e)
  where
    by_due : (y : Thread) (b : Bool) → stops (due_step m t y b).did ≡ false → (due_step m t y b).machine.stopped ≡ false
    by_due y false h = goes
    by_due y true h = h

    by_stopped : (y : Thread) (b : Bool) →
        stops (open_step m t y b).did ≡ false →
        (open_step m t y b).machine.stopped ≡ false
    by_stopped y true h = goes
    by_stopped y false h = by_due y (is_due m.threads t y) h

    by_thread : (o : Option Thread) → stops (step_of m t o).did ≡ false → (step_of m t o).machine.stopped ≡ false
    by_thread None h = goes
    by_thread (Some y) h = by_stopped y m.stopped h

-- steps of a thread that act once
record ActOnce (m : Machine) (t : ℕ) (steps : List ℕ) : Type 0 where
  acts : map (λ (e : MachineEntry). e.thread) (machine_trace m steps) ≡ t ∷ []
  goes : (machine_run m steps).stopped ≡ false

until_once : (n : ℕ) (m : Machine) (t : ℕ) →
    m.stopped ≡ false →
    acts_or_stops true (first_did (suc n) m t) ≡ true →
    ActOnce m t (until_acts n m t)
until_once zero m t goes h = by_did (machine_step m t).did refl h
  where
    by_did : (d : MachineDid) →
        (machine_step m t).did ≡ d →
        acts_or_stops true (or_later d machine_did.Silent) ≡ true →
        ActOnce m t (t ∷ [])
    by_did (machine_did.Acted a x) e is = record {
      acts = ap (λ d. map (λ (f : MachineEntry). f.thread) (traced t d []))
          e;
      goes = acted_goes m t a x goes e;
    }
    by_did machine_did.Silent e is = absurd cc
    by_did machine_did.Waits e is = absurd cc
    by_did machine_did.Idle e is = absurd cc
    by_did machine_did.Stopped e is = absurd cc
until_once (suc n) m t goes h = by_did (until_once n (machine_step m t).machine t) (machine_step m t).did refl h
  where
    by_did : ((machine_step m t).machine.stopped ≡ false → acts_or_stops true
        (first_did (suc n) (machine_step m t).machine t) ≡ true →
        ActOnce (machine_step m t).machine t (until_acts n (machine_step m t).machine t)) →
        (d : MachineDid) →
        (machine_step m t).did ≡ d →
        acts_or_stops true (or_later d (first_did (suc n) (machine_step m t).machine t)) ≡ true →
        ActOnce m t (t ∷ if_silent d (until_acts n (machine_step m t).machine t))
    by_did rest (machine_did.Acted a x) e is = record {
      acts = ap
          (λ d. map (λ (f : MachineEntry). f.thread) (traced t d [])) e;
      goes = acted_goes m t a x goes e;
    }
    by_did rest machine_did.Silent e is =
        let r : ActOnce (machine_step m t).machine t (until_acts n (machine_step m t).machine t) = rest
        (silent_goes m t goes e) is in
        record {
          acts = ap (λ d. map (λ (f : MachineEntry). f.thread)
              (traced t d (machine_trace (machine_step m t).machine (until_acts n (machine_step m t).machine t)))) e ∙
              r.acts;
          goes = r.goes;
        }
    by_did rest machine_did.Waits e is = absurd cc
    by_did rest machine_did.Idle e is = absurd cc
    by_did rest machine_did.Stopped e is = absurd cc

-- ---- the source's setup

module _ (file : File) (program : Program) where
  -- a step that changes nothing changes nothing however often it is made
  still_run : (s : State) (n : ℕ) →
      source_step file program s 0 ≡ Same →
      run (source_step file program) s (replicate n 0) ≡ s
  still_run s zero e = refl
  still_run s (suc n) e = ap (λ d. run (source_step file program) (after s d) (replicate n 0)) e ∙ still_run s n e

  module _ (k : ℕ) (ended : has_setup_ended file program (source_run file program (replicate k 0)) ≡ true)
      (before : (j : ℕ) → j < k → has_setup_ended file program (source_run file program (replicate j 0)) ≡ false) where
    abbrev at : ℕ → State
    at j = source_run file program (replicate j 0)

    -- each of its steps acts
    not_still : (j : ℕ) → j < k → source_step file program (at j) 0 ≡ Same → ⊥
    not_still j lt e =
        let all : j + (k - j) ≡ k = omega arith in
        let same : at k ≡ at j =
        ap (λ n. source_run file program (replicate n 0)) (sym all)
        ∙ ap (source_run file program) (sym (replicate-append-replicate j (k - j) 0))
        ∙ source_steps.run-append (source_step file program) (start program) (replicate j 0) (replicate (k - j) 0)
        ∙ still_run (at j) (k - j) e in
        no_both (sym ended ∙ ap (has_setup_ended file program) same ∙ before j lt)
      where
        no_both : true ≡ false → ⊥
        no_both h = cc

    abbrev Acts : ℕ → Type 0
    Acts j = (a : Action Value) × (x : Answer Value) × ((step file program (at j) 0).did ≡ did.Acted a x)

    acts_at : (j : ℕ) → j < k → Acts j
    acts_at j lt = by_did (step file program (at j) 0).did refl
      where
        by_did : (d : Did) →
            (step file program (at j) 0).did ≡ d →
            (a : Action Value) × (x : Answer Value) × ((step file program (at j) 0).did ≡ did.Acted a x)
        by_did (did.Acted a x) e = (a, x, e)
        by_did did.Waits e = absurd (not_still j lt (source_steps.waits_still file program (at j) 0 e))
        by_did did.Idle e = absurd (not_still j lt (source_steps.idle_still file program (at j) 0 e))

    -- the state after it is that of one step more
    next_at : (j : ℕ) → after (at j) (source_step file program (at j) 0) ≡ at (suc j)
    next_at j =
        sym (source_steps.run-append (source_step file program) (start program) (replicate j 0) (0 ∷ []))
        ∙ ap (source_run file program) (one_more j)

    module _ (code : Code) (cells : ℕ) (within : IsCells code cells) (acts : ActsInTime file program code)
        (ends : EndsInTime file program code) (some : 0 < length code.starts)
        (same : length code.starts ≡ length program.threads) (fits : Fits file program cells (replicate k 0)) where
      abbrev after_steps : List ℕ → Machine
      after_steps steps = machine_run (loaded code cells) steps

      there : 0 < length program.threads
      there = omega (arith, some, same)

      has_setup : (steps : List ℕ) → HasSetup (after_steps steps)
      unfolding HasSetup
      has_setup steps =
          let f = get_there code.starts 0 some in
          setup_run (loaded code cells) steps (started f.0, get_map started code.starts 0 f.0 f.1)

      -- once the source has ended, so it has after some more steps
      ends_ready : (steps : List ℕ) →
          to_source code cells steps ≡ replicate k 0 →
          (after_steps steps).stopped ≡ false →
          IsReady (machine_run (after_steps steps) (until_over (most_silent code) (after_steps steps)))
      ends_ready steps is goes =
          let over : next_ended (next_of file program (source_run file program (to_source code cells steps)) 0) ≡ true =
          ap (λ ts. has_setup_ended file program (source_run file program ts)) is ∙ ended in
          let stands = ended_stands _ _ over (ends cells within steps 0 there (goes, refl)) in
          let ready : IsReady (after_steps (steps ++ replicate (most_silent code) 0)) = ended_ready
          (after_steps (steps ++ replicate (most_silent code) 0))
          (has_setup (steps ++ replicate (most_silent code) 0)) stands in
          over_ready (most_silent code) (after_steps steps) (subst IsReady
          (run-append (loaded code cells) steps (replicate (most_silent code) 0)) ready)

      room_at : (j : ℕ) → suc j ≤ k → has_room program cells (at (suc j)) ≡ true
      room_at j le =
          let all : suc j + (k - suc j) ≡ k = omega arith in
          let whole : Fits file program cells (replicate (suc j) 0 ++ replicate (k - suc j) 0) = subst
          (Fits file program cells) (sym (replicate-append-replicate (suc j) (k - suc j) 0 ∙
          ap (λ i. replicate i 0) all)) fits in
          let part : length program.names + total (at (suc j)).store.things ≤ cells = shorter file program cells
          (replicate (suc j) 0) (replicate (k - suc j) 0) whole in
          grind (arith, nat_tests)

      -- the machine acts with its source
      machine_acts : (j : ℕ) →
          j < k →
          (steps : List ℕ) →
          to_source code cells steps ≡ replicate j 0 →
          (after_steps steps).stopped ≡ false →
          acts_or_stops true (first_did (suc (most_silent code)) (after_steps steps) 0) ≡ true
      machine_acts j lt steps is goes =
          let a = acts_at j lt in
          let more : most_silent code + 1 ≡ suc (most_silent code) = omega arith in
          let h : StepsAs program cells (step file program (source_run file program (to_source code cells steps)) 0)
          (first_did (most_silent code + 1) (after_steps steps) 0) = acts cells within steps 0 there
          (goes, refl) in
          let g : ActsAs (has_room program cells (step file program (at j) 0).after) (step file program (at j) 0).did
          (first_did (most_silent code + 1) (after_steps steps) 0) =
          subst (λ ts. StepsAs program cells (step file program (source_run file program ts) 0)
          (first_did (most_silent code + 1) (after_steps steps) 0)) is h in
          let f : acts_or_stops (has_room program cells (step file program (at j) 0).after)
          (first_did (most_silent code + 1) (after_steps steps) 0) ≡ true =
          subst (λ d. ActsAs (has_room program cells (step file program (at j) 0).after) d
          (first_did (most_silent code + 1) (after_steps steps) 0)) a.2 g in
          let to : (step file program (at j) 0).after ≡ at (suc j) = ap
          (λ d. after (at j) (stepped 0 d (step file program (at j) 0).after)) (sym a.2) ∙ next_at j in
          let room : has_room program cells (step file program (at j) 0).after ≡ true = ap (has_room program cells) to ∙
          room_at j (omega arith) in
          subst (λ i. acts_or_stops true (first_did i (after_steps steps) 0) ≡ true) more
          (subst (λ b. acts_or_stops b (first_did (most_silent code + 1) (after_steps steps) 0) ≡ true) room f)

      -- the machine after steps that stand for so many of the source
      record IsAt (j : ℕ) (steps : List ℕ) : Type 0 where
        is : to_source code cells steps ≡ replicate j 0
        goes : (after_steps steps).stopped ≡ false

      abbrev acting : List ℕ → List ℕ
      acting steps = until_acts (most_silent code) (after_steps steps) 0

      one_later : (j : ℕ) → j < k → (steps : List ℕ) → IsAt j steps → IsAt (suc j) (steps ++ acting steps)
      one_later j lt steps h =
          let once = until_once (most_silent code) (after_steps steps) 0 h.goes (machine_acts j lt steps h.is h.goes) in
          record {
            is =
                ap (map (λ (f : MachineEntry). f.thread)) (trace-append (loaded code cells) steps (acting steps))
                ∙ map-append (λ (f : MachineEntry). f.thread) (machine_trace (loaded code cells) steps)
                (machine_trace (after_steps steps) (acting steps))
                ∙ ap (λ l. l ++ map (λ (f : MachineEntry). f.thread) (machine_trace (after_steps steps) (acting steps)))
                h.is
                ∙ ap (λ l. replicate j 0 ++ l) once.acts
                ∙ one_more j;
            goes = ap (λ (z : Machine). z.stopped) (run-append (loaded code cells) steps (acting steps)) ∙ once.goes;
          }

      -- what comes after a step of the source, from a machine
      abbrev Comes : Machine → State → ℕ → Stepped State (Entry Value) → Type 0
      Comes m s r d =
          IsReady
          (machine_run m
          (steps_for file program (most_silent code) m 0 d
          ++ steps_from file program (most_silent code) (after s d)
          (machine_run m (steps_for file program (most_silent code) m 0 d)) (replicate r 0)))

      -- the same where it acts, by whether the setup has ended with it
      abbrev ComesTo : Machine → List ℕ → ℕ → State → Bool → Type 0
      ComesTo m acted r s b =
          IsReady
          (machine_run m
          ((acted ++ setup_end (most_silent code) (machine_run m acted) b)
          ++ steps_from file program (most_silent code) s (machine_run m
          (acted ++ setup_end (most_silent code) (machine_run m acted) b)) (replicate r 0)))

      last_comes : (m : Machine) (acted : List ℕ) (s : State) →
          IsReady (machine_run (machine_run m acted) (until_over (most_silent code) (machine_run m acted))) →
          ComesTo m acted 0 s true
      last_comes m acted s h =
          let over : List ℕ = until_over (most_silent code) (machine_run m acted) in
          subst IsReady (sym (ap (machine_run m) (append-nil (acted ++ over)) ∙ run-append m acted over)) h

      more_comes : (m : Machine) (acted : List ℕ) (r : ℕ) (s : State) →
          IsReady (machine_run (machine_run m acted) (steps_from file program (most_silent code) s (machine_run m acted)
          (replicate r 0))) →
          ComesTo m acted r s false
      more_comes m acted r s h =
          subst (λ x. IsReady
          (machine_run m (x ++ steps_from file program (most_silent code) s (machine_run m x) (replicate r 0))))
          (sym (append-nil acted))
          (subst IsReady
          (sym (run-append m acted (steps_from file program (most_silent code) s (machine_run m acted)
          (replicate r 0)))) h)

      now : (steps : List ℕ) → after_steps (steps ++ acting steps) ≡ machine_run (after_steps steps) (acting steps)
      now steps = run-append (loaded code cells) steps (acting steps)

      step_comes : (r j : ℕ) →
          j < k →
          (steps : List ℕ) →
          ComesTo (after_steps steps) (acting steps) r (at (suc j)) (has_setup_ended file program (at (suc j))) →
          IsReady (machine_run (after_steps steps) (steps_from file program (most_silent code) (at j)
          (after_steps steps) (replicate (suc r) 0)))
      step_comes r j lt steps h =
          let a = acts_at j lt in
          let s : State = (step file program (at j) 0).after in
          let acted : source_step file program (at j) 0 ≡ stepped 0 (did.Acted a.0 a.1) s = ap (λ d. stepped 0 d s) a.2
          in
          let to : s ≡ at (suc j) = ap (after (at j)) (sym acted) ∙ next_at j in
          subst (Comes (after_steps steps) (at j) r) (sym acted)
          (subst (λ z. ComesTo (after_steps steps) (acting steps) r z (has_setup_ended file program z)) (sym to) h)

      steps_at : (r j : ℕ) →
          j + suc r ≡ k →
          (steps : List ℕ) →
          IsAt j steps →
          IsReady (machine_run (after_steps steps) (steps_from file program (most_silent code) (at j)
          (after_steps steps) (replicate (suc r) 0)))
      steps_at zero j e steps h =
          let last : k ≡ suc j = omega arith in
          let over : has_setup_ended file program (at (suc j)) ≡ true = ap (λ i. has_setup_ended file program (at i))
          (sym last) ∙ ended in
          let next : IsAt (suc j) (steps ++ acting steps) = one_later j (omega arith) steps h in
          let ready = ends_ready (steps ++ acting steps) (next.is ∙ ap (λ i. replicate i 0) (sym last)) next.goes in
          step_comes zero j (omega arith) steps
          (subst (ComesTo (after_steps steps) (acting steps) 0 (at (suc j))) (sym over)
          (last_comes (after_steps steps) (acting steps) (at (suc j))
          (subst (λ z. IsReady (machine_run z (until_over (most_silent code) z))) (now steps) ready)))
      steps_at (suc q) j e steps h =
          let goes_on : has_setup_ended file program (at (suc j)) ≡ false = before (suc j) (omega arith) in
          let next : IsAt (suc j) (steps ++ acting steps) = one_later j (omega arith) steps h in
          let ready = steps_at q (suc j) (omega arith) (steps ++ acting steps) next in
          step_comes (suc q) j (omega arith) steps
          (subst (ComesTo (after_steps steps) (acting steps) (suc q) (at (suc j))) (sym goes_on)
          (more_comes (after_steps steps) (acting steps) (suc q) (at (suc j))
          (subst (λ z.
          IsReady (machine_run z (steps_from file program (most_silent code) (at (suc j)) z (replicate (suc q) 0))))
          (now steps) ready)))

      -- all of them, by whether the setup has ended at the start
      abbrev Begins : ℕ → Bool → Type 0
      Begins c b =
          IsReady
          (machine_run (loaded code cells)
          (setup_end (most_silent code) (loaded code cells) b
          ++ steps_from file program (most_silent code) (start program)
          (machine_run (loaded code cells) (setup_end (most_silent code) (loaded code cells) b)) (replicate c 0)))

      -- The machine after the steps for a setup that ends in the source has ended its setup, and has not stopped.
      pub set_up_in_time : IsReady (machine_run (loaded code cells)
          (to_machine file program code cells (replicate k 0)))
      set_up_in_time = by_count k refl
        where
          by_count : (c : ℕ) → k ≡ c → Begins k (has_setup_ended file program (start program))
          by_count zero e =
              let over : has_setup_ended file program (start program) ≡ true = ap
              (λ i. has_setup_ended file program (at i)) (sym e) ∙ ended in
              let over_steps : List ℕ = until_over (most_silent code) (loaded code cells) in
              let ready : IsReady (machine_run (loaded code cells) over_steps) = ends_ready []
              (ap (λ i. replicate i 0) (sym e)) refl in
              subst (λ c. Begins c (has_setup_ended file program (start program))) (sym e)
              (subst (Begins 0) (sym over)
              (subst IsReady (ap (machine_run (loaded code cells)) (sym (append-nil over_steps))) ready))
          by_count (suc r) e =
              let goes_on : has_setup_ended file program (start program) ≡ false = before 0 (omega arith) in
              subst (λ c. Begins c (has_setup_ended file program (start program))) (sym e)
              (subst (Begins (suc r)) (sym goes_on) (steps_at r 0 (omega arith) [] (record { is = refl; goes = refl })))

pub sets_up_all : SetsUp
sets_up_all file program code cells k within acts ends some same fits ended before =
    let r = set_up_in_time file program k ended before code cells within acts ends some same fits in
    (r.goes, r.ready)
