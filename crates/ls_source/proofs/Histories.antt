-- The history of a run, step by step.
use Rattle.std.proofs.Common.{◌≡◌, ℕ, ◌+◌, ◌≤◌, ◌<◌, Bool, true, false, List, [], ◌∷◌, ◌++◌, length, drop, get_or, refl}
use Rattle.std.proofs.Common.{sym, ap, ◌∙◌}
use Rattle.std.specs.Prelude.{if◌then◌else◌}
use Rattle.std.proofs.lemmas.List.{append_assoc, append-nil, drop_more}
use Rattle.std.proofs.lemmas.List.Elements.{filter_map-append}
use Rattle.std.proofs.lemmas.Option.{slice_get_past}
use Rattle.ls_events.specs.declared.value.Value.{Value}
use Rattle.ls_events.specs.declared.action.Action.{Action}
use Rattle.ls_events.specs.declared.event.Event.{Event}
use Rattle.ls_checked.specs.CheckedTree.{File}
use Rattle.ls_checked.specs.CheckedProgram.{Program}
use Rattle.ls_meaning.specs.Effect.{Effect, Waits, Does, effect}
use Rattle.ls_meaning.specs.Steps.{Entry, Stepped, Same, Moved, Acted, after, traced, trace}
use Rattle.ls_meaning.specs.Threads.{Next, Goes, Ended, Trapped, next, all_calls, calls_in}
use Rattle.ls_meaning.specs.Runs.{State, Step, event_of, history_of, source_step, stepped, step, step_of, performed}
use Rattle.ls_meaning.specs.Runs.{idle, has_started, answers_of}
use Rattle.ls_source.specs.Progress.{Progress, gone_on}

traced_is : {S L : Type 0} (d : Stepped S L) (lines : List L) → traced d lines ≡ traced d [] ++ lines
traced_is Same lines = refl
traced_is (Moved s) lines = refl
traced_is (Acted s line) lines = refl

-- a step's events come before those of the steps after it
step_before : (h : List Event) (d : Stepped State (Entry Value)) (lines : List (Entry Value)) →
    (h ++ history_of (traced d [])) ++ history_of lines ≡ h ++ history_of (traced d lines)
step_before h d lines =
    append_assoc h (history_of (traced d [])) (history_of lines)
    ∙ ap (λ l. h ++ l) (sym (ap history_of (traced_is d lines) ∙
    filter_map-append (λ e. event_of e.thread e.action) (traced d []) lines))

-- what is left of a schedule gives the rest of the history
abbrev pub rest_of : Progress → List ℕ → List Event
rest_of r ts = r.history ++ history_of (trace (source_step r.file r.program) r.state ts)

-- a step that does nothing leaves the state as it was
after_performed : (s : State) (t : ℕ) (a : Action Value) (e : Effect) →
    after s (stepped t (performed s t a e).did (performed s t a e).after) ≡ (performed s t a e).after
after_performed s t a Waits = refl
after_performed s t a (Does store answer) = refl

after_next : (file : File) (s : State) (t : ℕ) (n : Next) →
    after s (stepped t (step_of file s t n).did (step_of file s t n).after) ≡ (step_of file s t n).after
after_next file s t (Goes action sort) = after_performed s t action (effect file.classes s.store t action)
after_next file s t Ended = refl
after_next file s t Trapped = refl

after_if : (b : Bool) (s : State) (t : ℕ) (st : Step) →
    after s (stepped t st.did st.after) ≡ st.after →
    after s (stepped t (if b then st else idle s).did (if b then st else idle s).after) ≡
    (if b then st else idle s).after
after_if true s t st h = h
after_if false s t st h = refl

after_step_is : (file : File) (program : Program) (s : State) (t : ℕ) →
    after s (source_step file program s t) ≡ (step file program s t).after
after_step_is file program s t =
    after_if (has_started file program s t) s t (step_of file s t (next file program t (answers_of s t)))
    (after_next file s t (next file program t (answers_of s t)))

gone_rest : (r : Progress) (t : ℕ) (ts : List ℕ) → rest_of (gone_on r t) ts ≡ rest_of r (t ∷ ts)
gone_rest r t ts =
    step_before r.history (source_step r.file r.program r.state t)
    (trace (source_step r.file r.program) (gone_on r t).state ts)
    ∙ ap (λ s. r.history ++ history_of (traced (source_step r.file r.program r.state t)
    (trace (source_step r.file r.program) s ts))) (sym (after_step_is r.file r.program r.state t))

-- one step of a schedule further, the whole history stays the same
pub rest_after : (r r' : Progress) (ts : List ℕ) (i d : ℕ) (whole : List Event) →
    i < length ts →
    r' ≡ gone_on r (get_or ts i d) →
    rest_of r (drop i ts) ≡ whole →
    rest_of r' (drop (i + 1) ts) ≡ whole
rest_after r r' ts i d whole within is h =
    ap (λ q. rest_of q (drop (i + 1) ts)) is
    ∙ gone_rest r (get_or ts i d) (drop (i + 1) ts)
    ∙ ap (rest_of r) (sym (drop_more ts i d within))
    ∙ h

either_way : (b : Bool) (s : Step) → (if b then s else s) ≡ s
either_way true s = refl
either_way false s = refl

-- a step of the number of no thread does nothing
pub none_is_idle : (file : File) (program : Program) (s : State) (thread : ℕ) →
    length program.threads ≤ thread →
    step file program s thread ≡ idle s
none_is_idle file program s thread past =
    ap (λ o. if has_started file program s thread then step_of file s thread
    (all_calls file program 1 (calls_in o) (answers_of s thread)) else idle s)
    (slice_get_past program.threads thread past)
    ∙ either_way (has_started file program s thread) (idle s)

abbrev after_step : Progress → ℕ → Step → Progress
after_step r thread st = record {
  file = r.file;
  program = r.program;
  state = st.after;
  history = r.history ++ history_of (traced (stepped thread st.did st.after) []);
}

-- a step that does nothing changes nothing
pub idle_stays : (r : Progress) (thread : ℕ) →
    step r.file r.program r.state thread ≡ idle r.state →
    r ≡ gone_on r thread
idle_stays r thread is = sym (
    ap (after_step r thread) is
    ∙ ap (λ h. record { file = r.file; program = r.program; state = r.state; history = h }) (append-nil r.history))
