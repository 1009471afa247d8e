-- Laws of runs.
use Rattle.std.specs.Prelude.{◌≡◌, ℕ, List, [], ◌∷◌, ◌++◌}
use Rattle.ls_code.specs.Code.{Code}
use Rattle.ls_code.specs.Events.{action_events}
use Rattle.ls_code.specs.Machine.{Machine, Entry, loaded, machine_run, machine_trace, machine_history}
use Rattle.ls_events.specs.declared.event.Event.{Event}

-- the calls, returns and traps of a trace
abbrev pub trace_events : Code → List Entry → List Event
trace_events p [] = []
trace_events p (e ∷ es) = action_events p e.thread e.action ++ trace_events p es

-- a history is the events of its trace: equal traces of one code give equal histories
abbrev pub HistoriesAreOfTraces : Type 0
HistoriesAreOfTraces = (p : Code) (cells : ℕ) (ns : List ℕ) →
    machine_history p cells ns ≡ trace_events p (machine_trace (loaded p cells) ns)

-- a run goes on from the machine that another run has reached
abbrev pub RunsGoOn : Type 0
RunsGoOn = (m : Machine) (ns ms : List ℕ) → (machine_run m (ns ++ ms) ≡ machine_run (machine_run m ns) ms) ×
    (machine_trace m (ns ++ ms) ≡ machine_trace m ns ++ machine_trace (machine_run m ns) ms)
