-- A program as an automaton: its states between calls that run one at a time.
use Rattle.std.specs.Prelude.{◌≡◌, ◌↔◌, ◌≤◌, ℕ, List, [], ◌∷◌, replicate}
use Rattle.ls_events.specs.declared.event.Event.{Event}
use Rattle.ls_checked.specs.CheckedTree.{File}
use Rattle.ls_checked.specs.CheckedProgram.{Program}
use Rattle.ls_meaning.specs.Steps.{run, trace}
use Rattle.ls_meaning.specs.Runs.{State, history_of, source_history, source_step, start}
use Rattle.ls_linearizable.specs.Linearizable.{IsLinearizable}
use Rattle.ls_automaton.specs.Automaton.{Holds, IsExplainedFrom, Pair}

-- with so many steps of its thread, a call begins and ends, and leaves this state
pub record Leads (file : File) (program : Program) (s : State) (c e : Event) (after : State) : Type 0 where
  pub steps : ℕ
  pub history : history_of (trace (source_step file program) s (replicate steps c.thread)) ≡ c ∷ e ∷ []
  pub state : after ≡ run (source_step file program) s (replicate steps c.thread)

-- and these are no more than the bound
pub record LeadsWithin (file : File) (program : Program) (bound : ℕ) (s : State) (c e : Event) (after : State) : Type 0
  where
    pub leads : Leads file program s c e after
    pub within : leads.steps ≤ bound

-- a serial run, each call of which ends within so many steps, explains the history
abbrev pub IsExplainedWithin : File → Program → ℕ → List Event → Type 0
IsExplainedWithin file program bound h = IsExplainedFrom (LeadsWithin file program bound) (start program) h

-- A pair is left after the history of a schedule exactly if the history is linearizable.
abbrev pub HeldIfLinearizable : Type 0
HeldIfLinearizable =
    (file : File) (program : Program) (schedule : List ℕ) →
    ((p : Pair State) × Holds (Leads file program) (start program) (source_history file program schedule) p)
    ↔ IsLinearizable file program (source_history file program schedule)
