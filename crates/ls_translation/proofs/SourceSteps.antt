-- Runs of the source, step by step.
use Rattle.std.proofs.Common.{◌≡◌, ℕ, ◌+◌, ◌<◌, Bool, true, false, List, [], ◌∷◌, ◌++◌, length, take, get_or, refl, ap}
use Rattle.std.proofs.Common.{◌∙◌}
use Rattle.std.specs.Prelude.{if◌then◌else◌}
use Rattle.std.proofs.lemmas.List.{take_more}
use Rattle.ls_events.specs.declared.value.Value.{Value}
use Rattle.ls_events.specs.declared.action.Action.{Action}
use Rattle.ls_checked.specs.CheckedTree.{File}
use Rattle.ls_checked.specs.CheckedProgram.{Program}
use Rattle.ls_meaning.specs.Effect.{Effect, Waits, Does, effect}
use Rattle.ls_meaning.specs.Steps.{Stepped, Entry, after, run}
use Rattle.ls_meaning.specs.Threads.{Next, Goes, Ended, Trapped, next}
use Rattle.ls_meaning.specs.Runs.{State, Step, start, source_run, source_step, stepped, step, step_of, performed, idle}
use Rattle.ls_meaning.specs.Runs.{has_started, answers_of}

-- a step that does nothing leaves the state as it was
after_performed : (s : State) (t : ℕ) (a : Action Value) (e : Effect) →
    after s (stepped t (performed s t a e).did (performed s t a e).after) ≡ (performed s t a e).after
after_performed s t a Waits = refl
after_performed s t a (Does store answer) = refl

after_next : (file : File) (s : State) (t : ℕ) (n : Next) →
    after s (stepped t (step_of file s t n).did (step_of file s t n).after) ≡ (step_of file s t n).after
after_next file s t (Goes action sort) = after_performed s t action (effect file.classes s.store t action)
after_next file s t Ended = refl
after_next file s t Trapped = refl

after_if : (b : Bool) (s : State) (t : ℕ) (st : Step) →
    after s (stepped t st.did st.after) ≡ st.after →
    after s (stepped t (if b then st else idle s).did (if b then st else idle s).after) ≡
    (if b then st else idle s).after
after_if true s t st h = h
after_if false s t st h = refl

pub after_step_is : (file : File) (program : Program) (s : State) (t : ℕ) →
    after s (source_step file program s t) ≡ (step file program s t).after
after_step_is file program s t =
    after_if (has_started file program s t) s t (step_of file s t (next file program t (answers_of s t)))
    (after_next file s t (next file program t (answers_of s t)))

run-append : (does : State → ℕ → Stepped State (Entry Value)) (s : State) (ts us : List ℕ) →
    run does s (ts ++ us) ≡ run does (run does s ts) us
run-append does s [] us = refl
run-append does s (t ∷ ts) us = run-append does (after s (does s t)) ts us

-- the state after one more step of a schedule
pub run_more : (file : File) (program : Program) (ts : List ℕ) (i d : ℕ) →
    i < length ts →
    source_run file program (take (i + 1) ts) ≡ (step file program (source_run file program (take i ts))
    (get_or ts i d)).after
run_more file program ts i d within =
    ap (source_run file program) (take_more ts i d within)
    ∙ run-append (source_step file program) (start program) (take i ts) (get_or ts i d ∷ [])
    ∙ after_step_is file program (source_run file program (take i ts)) (get_or ts i d)
