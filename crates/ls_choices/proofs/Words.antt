-- What is told of a step after runs that are alike.
use Rattle.std.proofs.Common.{◌≡◌, ℕ, ◌++◌, ap, ◌∙◌, length}
use Rattle.std.specs.Prelude.{codes, nat_lt, if◌then◌else◌}
use Rattle.std.specs.Fmt.{decimal}
use Rattle.ls_checked.specs.CheckedTree.{File}
use Rattle.ls_checked.specs.CheckedProgram.{Program}
use Rattle.ls_meaning.specs.declared.step.Asked.{Asked}
use Rattle.ls_meaning.specs.declared.step.Asked.TheVariants as asks
use Rattle.ls_meaning.specs.declared.step.Did.{Did}
use Rattle.ls_meaning.specs.declared.step.Did.TheVariants.{Acted, Waits, Idle}
use Rattle.ls_meaning.specs.Threads.{next}
use Rattle.ls_meaning.specs.Runs.{State, answers_of, asked, asked_of, has_started}
use Rattle.ls_source.specs.Ends.{has_trapped}
use Rattle.ls_labels.specs.Names.{Names}
use Rattle.ls_labels.specs.Threads.{end_text, start_text, thread_name, trapped_in, wait_text}
use Rattle.ls_labels.specs.Words.{performed_text}
use Rattle.ls_trace.specs.Told.{Told, after_step, step_in}
use Rattle.ls_trace.specs.Lines.{numbered_text, step_text, still_text, who}
use Rattle.ls_choices.specs.Alike.{Alike, GoesOnAlike}
use Rattle.ls_choices.specs.Schedules.{words_of}
use Rattle.ls_choices.proofs.Steps.{after_alike, did_same, next_same, started_same}

asked_same : (file : File) (program : Program) (s s' : State) (t : ℕ) → GoesOnAlike file program s s' →
    asked file program s t ≡ asked file program s' t
asked_same file program s s' t h =
    ap (λ b. if nat_lt t (length program.threads)
    then (if b then asked_of (next file program t (answers_of s t)) else asks.NotStarted) else asks.Ended)
    (started_same file program s s' t h)
    ∙ ap (λ n. if nat_lt t (length program.threads)
    then (if has_started file program s' t then asked_of n else asks.NotStarted) else asks.Ended)
    (next_same file program s s' t h)

trapped_same : (names : Names) (s s' : State) (t : ℕ) → GoesOnAlike names.file names.program s s' →
    trapped_in names s t ≡ trapped_in names s' t
trapped_same names s s' t h = ap has_trapped (next_same names.file names.program s s' t h)

who_same : (names : Names) (r r' : Told) (t : ℕ) → Alike names r r' → who names r t ≡ who names r' t
who_same names r r' t h =
    ap (λ l. who names (record { state = r.state; labels = r.labels; calls = l }) t) h.calls

still_same : (names : Names) (r r' : Told) (t : ℕ) (a : Asked) → Alike names r r' →
    still_text names r t a ≡ still_text names r' t a
still_same names r r' t (asks.Asks action) h =
    ap (λ w. w ++ wait_text names r.labels r.state.store action) (who_same names r r' t h)
    ∙ ap (λ l. who names r' t ++ wait_text names l r.state.store action) h.labels
    ∙ ap (λ s. who names r' t ++ wait_text names r'.labels s action) h.state.store
still_same names r r' t asks.NotStarted h =
    ap (λ b. thread_name names.program t ++ start_text b) (trapped_same names r.state r'.state 0 h.state)
still_same names r r' t asks.Ended h =
    ap (λ b. thread_name names.program t ++ end_text b) (trapped_same names r.state r'.state t h.state)

numbered_same : (names : Names) (r r' : Told) (t : ℕ) → Alike names r r' →
    numbered_text names r t ≡ numbered_text names r' t
numbered_same names r r' t h =
    ap (λ a. if nat_lt t (length names.program.threads) then still_text names r t a
    else codes "no thread has number " ++ decimal t)
    (asked_same names.file names.program r.state r'.state t h.state)
    ∙ ap (λ w. if nat_lt t (length names.program.threads) then w else codes "no thread has number " ++ decimal t)
    (still_same names r r' t (asked names.file names.program r'.state t) h)

step_same : (names : Names) (r r' : Told) (t : ℕ) (d : Did) → Alike names r r' →
    step_text names r t d ≡ step_text names r' t d
step_same names r r' t (Acted action answer) h =
    ap (λ w. w ++ performed_text names r.labels t action answer) (who_same names r r' t h)
    ∙ ap (λ l. who names r' t ++ performed_text names l t action answer) h.labels
step_same names r r' t Waits h = numbered_same names r r' t h
step_same names r r' t Idle h = numbered_same names r r' t h

pub words_same : (names : Names) (r r' : Told) (t : ℕ) → Alike names r r' →
    words_of names r t ≡ words_of names r' t
words_same names r r' t h =
    step_same names (after_step names r t) (after_step names r' t) t (step_in names r t).did
    (after_alike names r r' t h)
    ∙ ap (step_text names (after_step names r' t) t) (did_same names r r' t h)
