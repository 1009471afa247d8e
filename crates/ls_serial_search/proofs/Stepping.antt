-- Runs of the source, one step more.
pub use Rattle.ls_search_laws.proofs.Stepping.{acts_within, still_stays, traced_events}
pub use Rattle.ls_search_laws.proofs.Covering.{holds_of_all}
use Rattle.std.proofs.Common.{◌≡◌, ℕ, ◌+◌, List, [], ◌∷◌, ◌++◌, sym, ap, ◌∙◌, append_assoc, replicate}
use Rattle.std.proofs.lemmas.List.{replicate_more}
use Rattle.std.proofs.lemmas.List.Elements.{filter_map-append}
use Rattle.ls_events.specs.declared.value.Value.{Value}
use Rattle.ls_events.specs.Beginnings.{IsBeginning}
use Rattle.ls_checked.specs.CheckedTree.{File}
use Rattle.ls_checked.specs.CheckedProgram.{Program}
use Rattle.ls_meaning.specs.Steps.{Entry, trace}
use Rattle.ls_meaning.specs.Runs.{event_of, history_of, source_history, source_run, source_step, start, step}
use Rattle.ls_serial_search.specs.Following.{events_of}
use Rattle.ls_search_laws.proofs.Stepping.{one_more, trace-append}

-- one step more leaves the state after a step
pub state_more : (file : File) (program : Program) (schedule : List ℕ) (t : ℕ) →
    source_run file program (schedule ++ t ∷ []) ≡ (step file program (source_run file program schedule) t).after
state_more file program schedule t = (one_more file program schedule t).state

-- and adds its events
pub history_more : (file : File) (program : Program) (schedule : List ℕ) (t : ℕ) →
    source_history file program (schedule ++ t ∷ []) ≡ source_history file program schedule ++
    events_of t (step file program (source_run file program schedule) t).did
history_more file program schedule t = (one_more file program schedule t).history

-- the history of a schedule begins that of each longer one
pub history_longer : (file : File) (program : Program) (schedule more : List ℕ) →
    IsBeginning (source_history file program schedule) (source_history file program (schedule ++ more))
history_longer file program schedule more = (
  history_of (trace (source_step file program) (source_run file program schedule) more),
  sym (ap history_of (trace-append (source_step file program) (start program) schedule more)
      ∙ filter_map-append (λ (e : Entry Value). event_of e.thread e.action)
      (trace (source_step file program) (start program) schedule)
      (trace (source_step file program) (source_run file program schedule) more)),
)

-- one step more of a thread's
pub steps_more : (schedule : List ℕ) (t j : ℕ) →
    (schedule ++ replicate j t) ++ t ∷ [] ≡ schedule ++ replicate (j + 1) t
steps_more schedule t j = append_assoc schedule (replicate j t) (t ∷ [])
    ∙ ap (λ ts. schedule ++ ts) (replicate_more j t)
