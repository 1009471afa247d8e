-- Steps of the source for which there is no room.
use Rattle.std.proofs.Common.{◌≡◌, ◌+◌, ◌<◌, ◌≤◌, ℕ, Bool, true, false, List, [], ◌∷◌, ◌++◌, length, Some, None, refl}
use Rattle.std.proofs.Common.{sym, ap, ◌∙◌, subst, arith}
use Rattle.std.proofs.lemmas.Bool.Decides.{nat_tests}
use Rattle.ls_events.specs.declared.value.Value.{Value}
use Rattle.ls_events.specs.declared.action.Action.{Action}
use Rattle.ls_events.specs.declared.action.Answer.{Answer}
use Rattle.ls_checked.specs.CheckedTree.{File}
use Rattle.ls_checked.specs.CheckedProgram.{Program}
use Rattle.ls_meaning.specs.Steps.{after}
use Rattle.ls_meaning.specs.Runs.{State, Step, start, source_run, source_step, step, stepped}
use Rattle.ls_meaning.specs.Still.{IsActing}
use Rattle.ls_meaning.specs.declared.step.Did.{Did}
use Rattle.ls_meaning.specs.declared.step.Did.TheVariants as did
use Rattle.ls_code.specs.Code.{Code}
use Rattle.ls_code.specs.Machine.{Machine, loaded, machine_run}
use Rattle.ls_preservation.specs.Acting.{ActsInTime, ActsAs, StepsAs, acts_or_stops, first_did, has_room}
use Rattle.ls_preservation.specs.Same.{Fits, IsCells, total}
use Rattle.ls_preservation.specs.Translations.{most_silent, to_source}
use Rattle.ls_explore.specs.Bursts.{burst}
use Rattle.ls_explore.proofs.Bursting.{burst_there}
use Rattle.ls_explore.proofs.Following.{acts_there, ready_open}
use Rattle.ls_explore.proofs.Open.{IsReady}
use Rattle.ls_explore.proofs.SourceSteps as source_steps

module _ (file : File) (program : Program) (cells : ℕ) (ts : List ℕ) (t : ℕ) where
  abbrev here : State
  here = source_run file program ts

  abbrev done : Step
  done = step file program here t

  after_is : (a : Action Value) (x : Answer Value) →
      done.did ≡ did.Acted a x →
      source_run file program (ts ++ t ∷ []) ≡ done.after
  after_is a x e =
      source_steps.run-append (source_step file program) (start program) ts (t ∷ [])
      ∙ ap (λ d. after here (stepped t d done.after)) e

  roomy : (s : State) → length program.names + total s.store.things ≤ cells → has_room program cells s ≡ true
  roomy s h = grind (arith, nat_tests)

  not_both : (b : Bool) → b ≡ true → b ≡ false → ⊥
  not_both b h g = cc

  by_did : (d : Did) →
      done.did ≡ d →
      IsActing d →
      has_room program cells done.after ≡ false →
      Fits file program cells (ts ++ t ∷ []) →
      ⊥
  by_did (did.Acted a x) e acts none fits =
      not_both (has_room program cells done.after)
      (roomy done.after (subst (λ (s : State). length program.names + total s.store.things ≤ cells) (after_is a x e)
      fits)) none
  by_did did.Waits e acts none fits = absurd acts
  by_did did.Idle e acts none fits = absurd acts

  -- a step that acts, and for which there is no room, doesn't fit
  pub unfit : IsActing done.did → has_room program cells done.after ≡ false → ¬ Fits file program cells (ts ++ t ∷ [])
  unfit acts none fits = by_did done.did refl acts none fits

-- a thread that acts is there
pub is_there : (file : File) (program : Program) (ts : List ℕ) (t : ℕ) →
    IsActing (step file program (source_run file program ts) t).did →
    t < length program.threads
is_there file program ts t is = by_did (step file program (source_run file program ts) t).did refl is
  where
    by_did : (d : Did) →
        (step file program (source_run file program ts) t).did ≡ d →
        IsActing d →
        t < length program.threads
    by_did (did.Acted a x) e acts = acts_there file program (source_run file program ts) t a x e
    by_did did.Waits e acts = absurd acts
    by_did did.Idle e acts = absurd acts

-- where the machine's thread doesn't act, and its source does, there is no room
module _ (file : File) (program : Program) (code : Code) (cells : ℕ) (within : IsCells code cells)
    (acts : ActsInTime file program code) (steps : List ℕ) (ready : IsReady (machine_run (loaded code cells) steps))
    (t : ℕ) (quiet : burst (most_silent code + 1) (machine_run (loaded code cells) steps) t ≡ None) where
  abbrev bound : ℕ
  bound = most_silent code + 1

  abbrev m : Machine
  m = machine_run (loaded code cells) steps

  abbrev next : Step
  next = step file program (source_run file program (to_source code cells steps)) t

  no_some : {A : Type 0} {x : A} → None ≡ Some x → ⊥
  no_some h = cc

  by_room : (b : Bool) → acts_or_stops b (first_did bound m t) ≡ true → b ≡ false
  by_room false h = refl
  by_room true h = let found = burst_there bound m t h in absurd (no_some (sym quiet ∙ found.1))

  by_source : (d : Did) → next.did ≡ d → IsActing d → has_room program cells next.after ≡ false
  by_source (did.Acted a x) e is =
      let s : State = source_run file program (to_source code cells steps) in
      let h : StepsAs program cells next (first_did bound m t) =
      acts cells within steps t (acts_there file program s t a x e) (ready_open m t ready) in
      by_room (has_room program cells next.after)
      (subst (λ d. ActsAs (has_room program cells next.after) d (first_did bound m t)) e h)
  by_source did.Waits e is = absurd is
  by_source did.Idle e is = absurd is

  pub lacks : IsActing next.did → ¬ Fits file program cells (to_source code cells steps ++ t ∷ [])
  lacks is = unfit file program cells (to_source code cells steps) t is (by_source next.did refl is)
