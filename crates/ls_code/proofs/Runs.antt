-- What each step keeps, and so each run.
use Rattle.std.proofs.Common.{◌≡◌, ℕ, List, [], ◌∷◌, ◌++◌, Option, Some, None, Bool, true, false, slice_get, refl, sym}
use Rattle.std.proofs.Common.{ap, ◌∙◌}
use Rattle.std.proofs.lemmas.List.{append-nil, append_assoc}
use Rattle.ls_code.specs.Code.{Code}
use Rattle.ls_code.specs.Thread.{Thread}
use Rattle.ls_code.specs.Events.{events_of}
use Rattle.ls_code.specs.Machine.{Machine, Entry, Stepped, due_step, open_step, step_of, is_due, machine_step}
use Rattle.ls_code.specs.Machine.{machine_run, machine_trace, traced, loaded}
use Rattle.ls_code.specs.Laws.{trace_events, HistoriesAreOfTraces, RunsGoOn}
use Rattle.ls_code.specs.declared.step.Did.{Did}
use Rattle.ls_code.specs.declared.step.Did.TheVariants as did

-- a step keeps the code, and adds its events
Keeps : Machine → ℕ → Stepped → Type 0
Keeps m n s = (s.machine.code ≡ m.code) × (s.machine.history ≡ m.history ++ events_of m.code n s.did)

due_keeps : (m : Machine) (n : ℕ) (t : Thread) (b : Bool) → Keeps m n (due_step m n t b)
unfolding Keeps
due_keeps m n t false = (refl, sym (append-nil m.history))
due_keeps m n t true = (refl, refl)

open_keeps : (m : Machine) (n : ℕ) (t : Thread) (b : Bool) → Keeps m n (open_step m n t b)
unfolding Keeps
open_keeps m n t true = (refl, sym (append-nil m.history))
open_keeps m n t false = due_keeps m n t (is_due m.threads n t)

step_keeps : (m : Machine) (n : ℕ) (o : Option Thread) → Keeps m n (step_of m n o)
unfolding Keeps
step_keeps m n None = (refl, sym (append-nil m.history))
step_keeps m n (Some t) = open_keeps m n t m.stopped

traced_events : (p : Code) (n : ℕ) (d : Did) (rest : List Entry) →
    trace_events p (traced n d rest) ≡ events_of p n d ++ trace_events p rest
traced_events p n (did.Acted action answer) rest = refl
traced_events p n did.Silent rest = refl
traced_events p n did.Waits rest = refl
traced_events p n did.Idle rest = refl
traced_events p n did.Stopped rest = refl

run_history : (m : Machine) (ns : List ℕ) →
    (machine_run m ns).history ≡ m.history ++ trace_events m.code (machine_trace m ns)
unfolding Keeps
run_history m [] = sym (append-nil m.history)
run_history m (n ∷ ns) =
    let k : Keeps m n (machine_step m n) = step_keeps m n (slice_get m.threads n) in
    let next : Machine = (machine_step m n).machine in
    let later : List Entry = machine_trace next ns in
    let e = run_history next ns in
    let a : next.history ++ trace_events next.code later ≡ (m.history ++ events_of m.code n (machine_step m n).did) ++
    trace_events m.code later = ap (λ h. h ++ trace_events next.code later) k.1 ∙
    ap (λ (p : Code). (m.history ++ events_of m.code n (machine_step m n).did) ++ trace_events p later) k.0 in
    let b = append_assoc m.history (events_of m.code n (machine_step m n).did) (trace_events m.code later) in
    let d = ap (λ es. m.history ++ es) (sym (traced_events m.code n (machine_step m n).did later)) in
    e ∙ (a ∙ (b ∙ d))

-- the law: a history is the events of its trace
pub histories : HistoriesAreOfTraces
histories p cells ns = run_history (loaded p cells) ns

traced_more : (n : ℕ) (d : Did) (xs ys : List Entry) → traced n d (xs ++ ys) ≡ traced n d xs ++ ys
traced_more n (did.Acted action answer) xs ys = refl
traced_more n did.Silent xs ys = refl
traced_more n did.Waits xs ys = refl
traced_more n did.Idle xs ys = refl
traced_more n did.Stopped xs ys = refl

-- the law: a run goes on from the machine that another run has reached
pub go_on : RunsGoOn
go_on m [] ms = (refl, refl)
go_on m (n ∷ ns) ms =
    let e = go_on (machine_step m n).machine ns ms in (
      e.0,
      ap (traced n (machine_step m n).did) e.1 ∙ traced_more n (machine_step m n).did
          (machine_trace (machine_step m n).machine ns) (machine_trace (machine_run (machine_step m n).machine ns) ms),
    )
