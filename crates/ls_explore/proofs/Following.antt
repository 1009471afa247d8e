-- A machine of the list after each schedule of the source that fits, once the setup has ended.
use Rattle.std.proofs.Common.{◌≡◌, ℕ, ◌+◌, ◌<◌, ◌≤◌, Bool, true, false, ◌||◌, List, [], ◌∷◌, ◌++◌, length}
use Rattle.std.proofs.Common.{map, Option, Some, None, refl, sym, ap, ◌∙◌, subst, arith}
use Rattle.std.proofs.Common.{slice_get, nat_eq, if◌then◌else◌}
use Rattle.std.specs.Prelude.{Contains}
use Rattle.std.proofs.lemmas.Bool.Decides.{nat_tests}
use Rattle.std.proofs.lemmas.List.{map-append}
use Rattle.ls_events.specs.declared.value.Value.{Value}
use Rattle.ls_events.specs.declared.action.Action.{Action}
use Rattle.ls_events.specs.declared.action.Answer.{Answer}
use Rattle.ls_checked.specs.CheckedTree.{File}
use Rattle.ls_checked.specs.CheckedProgram.{Program, ThreadProgram}
use Rattle.ls_meaning.specs.Steps.{Same, after}
use Rattle.ls_meaning.specs.Threads.{all_calls, calls_in}
use Rattle.ls_meaning.specs.Runs.{State, Step, start, source_run, source_history, source_step, history_of}
use Rattle.ls_meaning.specs.Runs.{step, step_of, stepped, idle, has_started, answers_of}
use Rattle.ls_meaning.specs.declared.step.Did.{Did}
use Rattle.ls_meaning.specs.declared.step.Did.TheVariants as did
use Rattle.ls_code.specs.Code.{Code}
use Rattle.ls_code.specs.Machine.{Machine, Entry, loaded, machine_run, machine_trace}
use Rattle.ls_code.specs.declared.step.Did.{Did as MachineDid}
use Rattle.ls_code.specs.declared.step.Did.TheVariants as machine_did
use Rattle.ls_preservation.specs.Same.{Fits, IsCells, total}
use Rattle.ls_preservation.specs.Translations.{most_silent, to_source}
use Rattle.ls_preservation.proofs.Lists.{get_within}
use Rattle.ls_preservation.proofs.Runs.{run-append, trace-append}
use Rattle.ls_preservation.specs.InTime.{IsOpen}
use Rattle.ls_preservation.specs.Acting.{ActsInTime, ActsAs, StepsAs, acts_or_stops, first_did, has_room}
use Rattle.ls_explore.specs.Bursts.{burst, IsClosed}
use Rattle.ls_explore.specs.Explored.{HasHistories, IsRoomy}
use Rattle.ls_explore.proofs.SourceSteps.{Like, like_more, like_still, waits_still, idle_still}
use Rattle.ls_explore.proofs.SourceSteps as source_steps
use Rattle.ls_explore.proofs.Bursting.{IsBurst, burst_is, burst_there}
use Rattle.ls_explore.proofs.Open.{IsReady, ready_burst}

or_true : (b : Bool) → (b || true) ≡ true
or_true true = refl
or_true false = refl

pub ready_open : (m : Machine) (t : ℕ) → IsReady m → IsOpen m t
ready_open m t h = (h.goes, ap (λ z. nat_eq t 0 || z) h.ready ∙ or_true (nat_eq t 0))

module _ (file : File) (program : Program) where
  -- a thread that isn't there doesn't act
  both_idle : (b : Bool) (s : State) → (if b then idle s else idle s).did ≡ did.Idle
  both_idle true s = refl
  both_idle false s = refl

  absent_idle : (s : State) (t : ℕ) → slice_get program.threads t ≡ None → (step file program s t).did ≡ did.Idle
  absent_idle s t e =
      ap (λ (o : Option ThreadProgram). (if has_started file program s t then
      step_of file s t (all_calls file program 1 (calls_in o) (answers_of s t)) else idle s).did) e
      ∙ both_idle (has_started file program s t) s

  not_both : (d : Did) (a : Action Value) (x : Answer Value) → d ≡ did.Acted a x → d ≡ did.Idle → ⊥
  not_both d a x h g = cc

  pub acts_there : (s : State) (t : ℕ) (a : Action Value) (x : Answer Value) →
      (step file program s t).did ≡ did.Acted a x →
      t < length program.threads
  acts_there s t a x h = by_thread (slice_get program.threads t) refl
    where
      by_thread : (o : Option ThreadProgram) → slice_get program.threads t ≡ o → t < length program.threads
      by_thread None e = absurd (not_both (step file program s t).did a x h (absent_idle s t e))
      by_thread (Some p) e = get_within program.threads t p e

-- a step that acts or stops acts where it doesn't stop
not_stopped : (room : Bool) (d : MachineDid) →
    acts_or_stops room d ≡ true →
    (d ≡ machine_did.Stopped → ⊥) →
    acts_or_stops true d ≡ true
not_stopped room (machine_did.Acted a x) h goes = refl
not_stopped room machine_did.Stopped h goes = absurd (goes refl)
not_stopped room machine_did.Silent h goes = h
not_stopped room machine_did.Waits h goes = h
not_stopped room machine_did.Idle h goes = h

module _ (file : File) (program : Program) (code : Code) (cells : ℕ) (within : IsCells code cells)
    (acts : ActsInTime file program code) (machines : List Machine)
    (closed : IsClosed (most_silent code + 1) (length program.threads) machines) where
  abbrev bound : ℕ
  bound = most_silent code + 1

  abbrev pub behind : List ℕ → Machine
  behind steps = machine_run (loaded code cells) steps

  -- a machine of the list, behind steps that come to the same as the schedule
  pub record Reaches (ts : List ℕ) : Type 0 where
    pub steps : List ℕ
    pub like : Like file program ts (to_source code cells steps)
    pub ready : IsReady (behind steps)
    pub there : Contains machines (behind steps)

  roomy : (s : State) → length program.names + total s.store.things ≤ cells → has_room program cells s ≡ true
  roomy s h = grind (arith, nat_tests)

  -- where the source's next step of the thread acts, that of the machine does
  abbrev pub GoesAlong : (ts : List ℕ) → ℕ → Reaches ts → Type 0
  GoesAlong ts t r =
      (a : Action Value) (x : Answer Value) → (step file program (source_run file program ts) t).did ≡ did.Acted a x →
      acts_or_stops true (first_did bound (behind r.steps) t) ≡ true

  module _ (ts : List ℕ) (t : ℕ) (r : Reaches ts) where
    abbrev here : State
    here = source_run file program ts

    abbrev done : Step
    done = step file program here t

    still : source_step file program here t ≡ Same → Reaches (ts ++ t ∷ [])
    still e = record {
      steps = r.steps;
      like = like_still file program ts (to_source code cells r.steps) t e r.like;
      ready = r.ready;
      there = r.there;
    }

    -- what the machine comes to where the source acts
    module _ (a : Action Value) (x : Answer Value) (e : done.did ≡ did.Acted a x) where
      is_there : t < length program.threads
      is_there = acts_there file program here t a x e

      after_is : source_run file program (ts ++ t ∷ []) ≡ done.after
      after_is =
          source_steps.run-append (source_step file program) (start program) ts (t ∷ [])
          ∙ ap (λ d. after here (stepped t d done.after)) e

      comes_so : acts_or_stops (has_room program cells done.after) (first_did bound (behind r.steps) t) ≡ true
      comes_so =
          let h : StepsAs program cells (step file program (source_run file program (to_source code cells r.steps)) t)
          (first_did bound (behind r.steps) t) =
          acts cells within r.steps t is_there (ready_open (behind r.steps) t r.ready) in
          let g : ActsAs (has_room program cells done.after) done.did (first_did bound (behind r.steps) t) =
          subst (λ s. StepsAs program cells (step file program s t) (first_did bound (behind r.steps) t))
          (sym r.like.states) h in
          subst (λ d. ActsAs (has_room program cells done.after) d (first_did bound (behind r.steps) t)) e g

      moved : (m' : Machine) → burst bound (behind r.steps) t ≡ Some m' → Reaches (ts ++ t ∷ [])
      moved m' is =
          let b : IsBurst (behind r.steps) t m' = burst_is bound (behind r.steps) m' t is in
          let to : behind (r.steps ++ b.steps) ≡ m' = run-append (loaded code cells) r.steps b.steps ∙ b.runs in
          let source : to_source code cells (r.steps ++ b.steps) ≡ to_source code cells r.steps ++ t ∷ [] =
          ap (map (λ (f : Entry). f.thread)) (trace-append (loaded code cells) r.steps b.steps)
          ∙ map-append (λ (f : Entry). f.thread) (machine_trace (loaded code cells) r.steps)
          (machine_trace (behind r.steps) b.steps)
          ∙ ap (λ l. to_source code cells r.steps ++ l) b.acts in
          record {
            steps = r.steps ++ b.steps;
            like = subst (λ us. Like file program (ts ++ t ∷ []) us) (sym source)
                (like_more file program ts (to_source code cells r.steps) t r.like);
            ready = subst IsReady (sym to) (ready_burst bound (behind r.steps) m' t r.ready is);
            there = subst (Contains machines) (sym to) (closed.more (behind r.steps) m' t r.there is_there is);
          }

      acted : acts_or_stops true (first_did bound (behind r.steps) t) ≡ true → Reaches (ts ++ t ∷ [])
      acted comes = let found = burst_there bound (behind r.steps) t comes in moved found.0 found.1

    by_did : GoesAlong ts t r → (d : Did) → done.did ≡ d → Reaches (ts ++ t ∷ [])
    by_did goes (did.Acted a x) e = acted a x e (goes a x e)
    by_did goes did.Waits e = still (waits_still file program here t e)
    by_did goes did.Idle e = still (idle_still file program here t e)

    pub reaches_more : GoesAlong ts t r → Reaches (ts ++ t ∷ [])
    reaches_more goes = by_did goes done.did refl

    -- so it is where what the step makes has room
    pub goes_fitting : Fits file program cells (ts ++ t ∷ []) → GoesAlong ts t r
    goes_fitting fits a x e =
        let room : has_room program cells done.after ≡ true =
        roomy done.after (subst (λ (s : State). length program.names + total s.store.things ≤ cells) (after_is a x e)
        fits) in
        subst (λ b. acts_or_stops b (first_did bound (behind r.steps) t) ≡ true) room (comes_so a x e)

    -- and where no machine of the list would stop
    pub goes_roomy : IsRoomy bound (length program.threads) machines → GoesAlong ts t r
    goes_roomy room a x e =
        not_stopped (has_room program cells done.after) (first_did bound (behind r.steps) t) (comes_so a x e)
        (room (behind r.steps) t r.there (is_there a x e))

  -- its history is that machine's
  pub reached_history : HasHistories file program code cells →
      (ts : List ℕ) →
      (r : Reaches ts) →
      (behind r.steps).history ≡ source_history file program ts
  reached_history histories ts r = histories r.steps ∙ ap history_of (sym r.like.traces)
