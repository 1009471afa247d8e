-- Where no thread of the source acts, none of the machine does, and the other way round.
use Rattle.std.proofs.Common.{◌≡◌, ℕ, suc, ◌+◌, ◌-◌, ◌<◌, ◌≤◌, Bool, List, [], ◌∷◌}
use Rattle.std.proofs.Common.{◌++◌, length, map, replicate, Option, Some, None, refl, sym, ap, ◌∙◌, subst, arith}
use Rattle.std.proofs.Common.{length-append}
use Rattle.std.specs.Prelude.{Contains}
use Rattle.std.proofs.lemmas.List.{map-append, length-map, replicate-append-replicate}
use Rattle.ls_events.specs.declared.value.Value.{Value}
use Rattle.ls_events.specs.declared.action.Action.{Action}
use Rattle.ls_events.specs.declared.action.Answer.{Answer}
use Rattle.ls_checked.specs.CheckedTree.{File}
use Rattle.ls_checked.specs.CheckedProgram.{Program}
use Rattle.ls_meaning.specs.Steps.{Entry, Stepped, Same, Moved, Acted, after, traced, trace}
use Rattle.ls_meaning.specs.Runs.{State, start, source_run, source_trace, source_step, step}
use Rattle.ls_meaning.specs.declared.step.Did.{Did}
use Rattle.ls_meaning.specs.declared.step.Did.TheVariants as did
use Rattle.ls_code.specs.Code.{Code}
use Rattle.ls_code.specs.Machine.{Machine, Entry as MachineEntry, loaded, machine_run, machine_trace}
use Rattle.ls_code.specs.declared.step.Did.{Did as MachineDid}
use Rattle.ls_code.specs.declared.step.Did.TheVariants as machine_did
use Rattle.ls_preservation.specs.Same.{IsCells}
use Rattle.ls_preservation.specs.Translations.{most_silent, to_source}
use Rattle.ls_preservation.proofs.Runs.{trace-append}
use Rattle.ls_preservation.specs.Acting.{ActsInTime, ActsAs, first_did, has_room}
use Rattle.ls_explore.specs.Bursts.{burst, IsClosed}
use Rattle.ls_explore.specs.Explored.{HasHistories, IsSetUp}
use Rattle.ls_explore.specs.Ends.{AreQuiet, Ends, EndsWhole, HasSteps, IsEnd, IsQuiet}
use Rattle.ls_meaning.specs.Still.{IsOver, IsStill}
use Rattle.ls_explore.specs.Ends.{StandsStill, StandsStillAlong}
use Rattle.ls_explore.proofs.SourceSteps.{Like, idle_still, waits_still}
use Rattle.ls_explore.proofs.SourceSteps as source_steps
use Rattle.ls_explore.proofs.Along.{IsAlong, along_is, ready_along, whole_run, whole_source}
use Rattle.ls_explore.proofs.Bursting.{IsBurst, burst_is}
use Rattle.ls_explore.proofs.Open.{IsReady}
use Rattle.ls_explore.proofs.Following
use Rattle.ls_explore.proofs.Following.{acts_there, ready_open}
use Rattle.ls_explore.proofs.SettingUp
use Rattle.ls_explore.proofs.SettingUp.{Setting, Past}

-- no machine's thread acts where the step of the source that it stands for wouldn't
not_quiet : (room : Bool) (a : Action Value) (x : Answer Value) (d : Did) (first : MachineDid) →
    d ≡ did.Acted a x →
    ActsAs room d first →
    IsQuiet first →
    ⊥
not_quiet room a x (did.Acted b y) (machine_did.Acted c z) e h q = q
not_quiet room a x (did.Acted b y) machine_did.Stopped e h q = q
not_quiet room a x (did.Acted b y) machine_did.Silent e h q = cc
not_quiet room a x (did.Acted b y) machine_did.Waits e h q = cc
not_quiet room a x (did.Acted b y) machine_did.Idle e h q = cc
not_quiet room a x did.Waits first e h q = cc
not_quiet room a x did.Idle first e h q = cc

still_did : (file : File) (program : Program) (code : Code) (cells : ℕ) →
    IsCells code cells →
    ActsInTime file program code →
    (steps : List ℕ) (t : ℕ) →
    IsReady (machine_run (loaded code cells) steps) →
    (t < length program.threads → IsQuiet (first_did (most_silent code + 1) (machine_run (loaded code cells) steps) t))
    →
    (d : Did) →
    (step file program (source_run file program (to_source code cells steps)) t).did ≡ d →
    IsStill d
still_did file program code cells within acts steps t ready quiet (did.Acted a x) e =
    let s : State = source_run file program (to_source code cells steps) in
    let m : Machine = machine_run (loaded code cells) steps in
    let lt : t < length program.threads = acts_there file program s t a x e in
    absurd (not_quiet (has_room program cells (step file program s t).after) a x (step file program s t).did
    (first_did (most_silent code + 1) m t) e (acts cells within steps t lt (ready_open m t ready)) (quiet lt))
still_did file program code cells within acts steps t ready quiet did.Waits e = tt
still_did file program code cells within acts steps t ready quiet did.Idle e = tt

pub stands_still : StandsStill
stands_still file program code cells within acts steps goes ready quiet t =
    still_did file program code cells within acts steps t (record { goes = goes; ready = ready }) (quiet t)
    (step file program (source_run file program (to_source code cells steps)) t).did refl

pub stands_still_along : StandsStillAlong
stands_still_along file program code cells k root m path within acts up along quiet =
    let bound : ℕ = most_silent code + 1 in
    let r : IsAlong root path m = along_is bound root path m along in
    let steps : List ℕ = up.steps ++ r.steps in
    let to : machine_run (loaded code cells) steps ≡ m = whole_run code cells up.steps root path m up.reached r in
    let source : to_source code cells steps ≡ replicate k 0 ++
    path = whole_source code cells up.steps root (replicate k 0) path m up.reached up.acting r in
    let ready : IsReady m = ready_along bound root path m (record { goes = up.goes; ready = up.ready }) along in
    let ready' : IsReady (machine_run (loaded code cells) steps) = subst IsReady (sym to) ready in
    subst (λ ts. IsOver file program (source_run file program ts)) source
    (stands_still file program code cells within acts steps ready'.goes ready'.ready
    (subst (AreQuiet bound (length program.threads)) (sym to) quiet))

module _ (file : File) (program : Program) where
  abbrev sd : State → ℕ → Stepped State (Entry Value)
  sd = source_step file program

  pub still_same : (s : State) (t : ℕ) → IsStill (step file program s t).did → source_step file program s t ≡ Same
  still_same s t h = by_did (step file program s t).did refl h
    where
      by_did : (d : Did) → (step file program s t).did ≡ d → IsStill d → source_step file program s t ≡ Same
      by_did (did.Acted a x) e h = absurd h
      by_did did.Waits e h = waits_still file program s t e
      by_did did.Idle e h = idle_still file program s t e

  -- a run has no more actions than steps
  traced_length : (d : Stepped State (Entry Value)) (rest : List (Entry Value)) (n : ℕ) →
      length rest ≤ n →
      length (traced d rest) ≤ suc n
  traced_length Same rest n h = omega arith
  traced_length (Moved s) rest n h = omega arith
  traced_length (Acted s e) rest n h = omega arith

  trace_length : (ts : List ℕ) (s : State) → length (trace sd s ts) ≤ length ts
  trace_length [] s = omega arith
  trace_length (t ∷ ts) s = traced_length (sd s t) (trace sd (after s (sd s t)) ts) (length ts)
      (trace_length ts (after s (sd s t)))

  -- where all steps of a schedule act, none of them stands still
  all_act : (ts us : List ℕ) (t : ℕ) →
      length (ts ++ t ∷ us) ≡ length (source_trace file program (ts ++ t ∷ us)) →
      source_step file program (source_run file program ts) t ≡ Same →
      ⊥
  all_act ts us t all same =
      let s = source_run file program ts in
      let first = trace_length ts (start program) in
      let rest = trace_length us (after s (sd s t)) in
      let one : trace sd s (t ∷ us) ≡ trace sd (after s (sd s t)) us = ap
      (λ d. traced d (trace sd (after s (sd s t)) us)) same in
      let parts = source_steps.trace-append sd (start program) ts (t ∷ us) in
      omega (
        arith,
        first,
        rest,
        all,
        ap length one,
        ap length parts,
        length-append ts (t ∷ us),
        length-append (source_trace file program ts) (trace sd s (t ∷ us)),
      )

module _ (file : File) (program : Program) (code : Code) (cells k : ℕ) (root : Machine) (machines : List Machine)
    (within : IsCells code cells) (acts : ActsInTime file program code)
    (histories : HasHistories file program code cells) (has_steps : HasSteps file program code cells)
    (up : IsSetUp file program code cells k root) (has_root : Contains machines root)
    (closed : IsClosed (most_silent code + 1) (length program.threads) machines) where
  abbrev bound : ℕ
  bound = most_silent code + 1

  abbrev Reaches : List ℕ → Type 0
  Reaches = Following.Reaches file program code cells within acts machines closed

  counted : (steps : List ℕ) →
      length (to_source code cells steps) ≡ length (source_trace file program (to_source code cells steps))
  counted steps = ap length (has_steps steps) ∙ length-map (source_trace file program (to_source code cells steps))
      (λ (e : Entry Value). e.thread)

  no_burst : (ts : List ℕ) (r : Reaches ts) (t : ℕ) →
      IsStill (step file program (source_run file program ts) t).did →
      (o : Option Machine) →
      burst bound (machine_run (loaded code cells) r.steps) t ≡ o →
      o ≡ None
  no_burst ts r t still None e = refl
  no_burst ts r t still (Some m') e =
      let b : IsBurst (machine_run (loaded code cells) r.steps) t m' = burst_is bound
      (machine_run (loaded code cells) r.steps) m' t e in
      let source : to_source code cells (r.steps ++ b.steps) ≡ to_source code cells r.steps ++ t ∷ [] =
      ap (map (λ (f : MachineEntry). f.thread)) (trace-append (loaded code cells) r.steps b.steps)
      ∙ map-append (λ (f : MachineEntry). f.thread) (machine_trace (loaded code cells) r.steps)
      (machine_trace (machine_run (loaded code cells) r.steps) b.steps)
      ∙ ap (λ l. to_source code cells r.steps ++ l) b.acts in
      let all = subst (λ us. length us ≡ length (source_trace file program us)) source (counted (r.steps ++ b.steps)) in
      let same = ap (λ s. source_step file program s t) (sym r.like.states) ∙
      still_same file program (source_run file program ts) t still in
      absurd (all_act file program (to_source code cells r.steps) [] t all same)

  ended : (ts : List ℕ) →
      IsOver file program (source_run file program ts) →
      SettingUp.Place file program code cells within acts machines closed k root up has_root ts →
      IsEnd bound (length program.threads) file program machines ts
  ended ts over (Past r) = record {
    machine = machine_run (loaded code cells) r.steps;
    there = r.there;
    same = Following.reached_history file program code cells within acts machines closed histories ts r;
    still = λ t lt. no_burst ts r t (over t) (burst bound (machine_run (loaded code cells) r.steps) t) refl;
  }
  ended ts over (Setting j lt like) =
      let rest : List ℕ = replicate (k - suc j) 0 in
      let e : j + suc (k - suc j) ≡ k = omega arith in
      let split : replicate j 0 ++ 0 ∷ rest ≡ replicate k 0 = replicate-append-replicate j (suc (k - suc j)) 0 ∙
      ap (λ n. replicate n 0) e in
      let all = subst (λ us. length us ≡ length (source_trace file program us)) (up.acting ∙ sym split)
      (counted up.steps) in
      let same = ap (λ s. source_step file program s 0) (sym like.states) ∙
      still_same file program (source_run file program ts) 0 (over 0) in
      absurd (all_act file program (replicate j 0) rest 0 all same)

pub ends_all : Ends
ends_all file program code cells k root machines within acts histories has_steps up has_root closed ts fits over =
    ended file program code cells k root machines within acts histories has_steps up has_root closed ts over
    (SettingUp.place_of file program code cells within acts machines closed k root up has_root ts fits)

pub ends_whole : EndsWhole
ends_whole file program code cells k root machines within acts histories has_steps up has_root closed room ts over =
    ended file program code cells k root machines within acts histories has_steps up has_root closed ts over
    (SettingUp.place_roomy file program code cells within acts machines closed k root up has_root room ts)
