-- What a run leaves, step by step.
use Rattle.std.proofs.Common.{◌≡◌, ℕ, ◌+◌, ◌<◌, Bool, true, false, List, ◌++◌, length, drop, get_or, refl, sym, ap, ◌∙◌}
use Rattle.std.proofs.Common.{Option, Some, None}
use Rattle.std.specs.Prelude.{if◌then◌else◌, option_to_list}
use Rattle.std.specs.List.{cons_option}
use Rattle.std.proofs.lemmas.List.{append_assoc, drop_more}
use Rattle.ls_events.specs.declared.value.Value.{Value}
use Rattle.ls_events.specs.declared.action.Action.{Action}
use Rattle.ls_checked.specs.CheckedTree.{File}
use Rattle.ls_checked.specs.CheckedProgram.{Program}
use Rattle.ls_meaning.specs.declared.step.Did.{Did}
use Rattle.ls_meaning.specs.declared.step.Did.TheVariants as did
use Rattle.ls_meaning.specs.Effect.{Effect, Waits, Does, effect}
use Rattle.ls_meaning.specs.Steps.{Entry, after, traced, run, trace}
use Rattle.ls_meaning.specs.Threads.{Next, Goes, Ended, Trapped, next}
use Rattle.ls_meaning.specs.Runs.{State, Step, source_step, source_run, source_trace, source_history, stepped, step}
use Rattle.ls_meaning.specs.Runs.{step_of, performed, idle, has_started, answers_of}
use Rattle.ls_labels.specs.declared.label.Label.{Label}
use Rattle.ls_labels.specs.Labels.{label_of, labels_of}
use Rattle.ls_source.specs.Progress.{Progress, gone_on}
use Rattle.ls_source.proofs.Histories.{rest_of, rest_after}
use Rattle.ls_state.specs.Scene.{made_by}

-- a step that does nothing leaves the state as it was
after_performed : (s : State) (t : ℕ) (a : Action Value) (e : Effect) →
    after s (stepped t (performed s t a e).did (performed s t a e).after) ≡ (performed s t a e).after
after_performed s t a Waits = refl
after_performed s t a (Does store answer) = refl

after_next : (file : File) (s : State) (t : ℕ) (n : Next) →
    after s (stepped t (step_of file s t n).did (step_of file s t n).after) ≡ (step_of file s t n).after
after_next file s t (Goes action sort) = after_performed s t action (effect file.classes s.store t action)
after_next file s t Ended = refl
after_next file s t Trapped = refl

after_if : (b : Bool) (s : State) (t : ℕ) (st : Step) →
    after s (stepped t st.did st.after) ≡ st.after →
    after s (stepped t (if b then st else idle s).did (if b then st else idle s).after) ≡
    (if b then st else idle s).after
after_if true s t st h = h
after_if false s t st h = refl

pub after_step_is : (file : File) (program : Program) (s : State) (t : ℕ) →
    after s (source_step file program s t) ≡ (step file program s t).after
after_step_is file program s t =
    after_if (has_started file program s t) s t (step_of file s t (next file program t (answers_of s t)))
    (after_next file s t (next file program t (answers_of s t)))

-- the state at the end of what is left of a schedule, and the labels of what it makes
abbrev pub end_of : File → Program → State → List ℕ → State
end_of file program s ts = run (source_step file program) s ts

abbrev pub labels_after : File → Program → State → List Label → List ℕ → List Label
labels_after file program s ls ts = ls ++ labels_of (trace (source_step file program) s ts)

pub end_step : (file : File) (program : Program) (s s' : State) (ts : List ℕ) (i d : ℕ) (whole : State) →
    i < length ts →
    s' ≡ (step file program s (get_or ts i d)).after → end_of file program s (drop i ts) ≡ whole →
    end_of file program s' (drop (i + 1) ts) ≡ whole
end_step file program s s' ts i d whole within is h =
    ap (λ x. end_of file program x (drop (i + 1) ts)) (is ∙ sym (after_step_is file program s (get_or ts i d)))
    ∙ ap (end_of file program s) (sym (drop_more ts i d within))
    ∙ h

pub label_first : (t : ℕ) (x : Did) (s : State) (lines : List (Entry Value)) →
    labels_of (traced (stepped t x s) lines) ≡ made_by x ++ labels_of lines
label_first t (did.Acted action answer) s lines = by_label (label_of action)
  where
    by_label : (o : Option Label) → cons_option o (labels_of lines) ≡ option_to_list o ++ labels_of lines
    by_label None = refl
    by_label (Some l) = refl
label_first t did.Waits s lines = refl
label_first t did.Idle s lines = refl

pub labels_step : (file : File) (program : Program) (s s' : State) (ls ls' : List Label) (ts : List ℕ) (i d : ℕ)
    (whole : List Label) →
    i < length ts →
    s' ≡ (step file program s (get_or ts i d)).after → ls' ≡ ls ++ made_by (step file program s (get_or ts i d)).did →
    labels_after file program s ls (drop i ts) ≡ whole → labels_after file program s' ls' (drop (i + 1) ts) ≡ whole
labels_step file program s s' ls ls' ts i d whole within is made h =
    let t : ℕ = get_or ts i d in
    let rest : List ℕ = drop (i + 1) ts in
    ap (λ x. x ++ labels_of (trace (source_step file program) s' rest)) made
    ∙ append_assoc ls (made_by (step file program s t).did) (labels_of (trace (source_step file program) s' rest))
    ∙ ap (λ x. ls ++ (made_by (step file program s t).did ++ labels_of (trace (source_step file program) x rest)))
    (is ∙ sym (after_step_is file program s t))
    ∙ ap (λ x. ls ++ x)
    (sym (label_first t (step file program s t).did (step file program s t).after
    (trace (source_step file program) (after s (source_step file program s t)) rest)))
    ∙ ap (labels_after file program s ls) (sym (drop_more ts i d within))
    ∙ h

-- a run, and the labels of what it has made, are on the way to the end of a schedule, with these steps left
pub record IsRest (file : File) (program : Program) (steps : List ℕ) (r : Progress) (ls : List Label) (ts : List ℕ) :
    Type 0 where
  pub file_is : r.file ≡ file
  pub program_is : r.program ≡ program
  pub state : end_of file program r.state ts ≡ source_run file program steps
  pub labels : labels_after file program r.state ls ts ≡ labels_of (source_trace file program steps)
  pub history : rest_of r ts ≡ source_history file program steps

pub step_is : (r : Progress) (file : File) (program : Program) (t : ℕ) →
    r.file ≡ file →
    r.program ≡ program →
    step r.file r.program r.state t ≡ step file program r.state t
step_is r file program t f p = ap (λ x. step x r.program r.state t) f ∙ ap (λ x. step file x r.state t) p

pub rest_step : (file : File) (program : Program) (steps : List ℕ) (r r' : Progress) (ls ls' : List Label) (x : Did)
    (i d : ℕ) →
    i < length steps →
    r' ≡ gone_on r (get_or steps i d) → x ≡ (step r.file r.program r.state (get_or steps i d)).did →
    ls' ≡ ls ++ made_by x →
    IsRest file program steps r ls (drop i steps) → IsRest file program steps r' ls' (drop (i + 1) steps)
rest_step file program steps r r' ls ls' x i d within is did_is made h =
    let st = step_is r file program (get_or steps i d) h.file_is h.program_is in
    let after : r'.state ≡ (step file program r.state (get_or steps i d)).after = ap (λ q. q.state) is ∙
    ap (λ q. q.after) st in
    let kept : ls' ≡ ls ++ made_by (step file program r.state (get_or steps i d)).did = made ∙
    ap (λ q. ls ++ made_by q) (did_is ∙ ap (λ q. q.did) st) in
    record {
      file_is = ap (λ q. q.file) is ∙ h.file_is;
      program_is = ap (λ q. q.program) is ∙ h.program_is;
      state = end_step file program r.state r'.state steps i d (source_run file program steps) within after h.state;
      labels = labels_step file program r.state r'.state ls ls' steps i d (labels_of (source_trace file program steps))
          within after kept h.labels;
      history = rest_after r r' steps i d (source_history file program steps) within is h.history;
    }
