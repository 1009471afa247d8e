-- Many steps of one thread.
use Rattle.std.specs.Prelude.{◌≡◌, ℕ, zero, suc, List, ◌∷◌, ◌≤◌, Some, true, false, slice_get, slice_set}
use Rattle.ls_code.specs.Cells.{Cells}
use Rattle.ls_code.specs.Code.{Code}
use Rattle.ls_code.specs.Thread.{Thread}
use Rattle.ls_code.specs.Machine.{Machine, machine_run, is_due}
use Rattle.ls_code.specs.Steps.{StepResult, performed, thread_move}
use Rattle.ls_machine_threads.specs.Memory.{KeptThread, keeping_thread, events_left}
use Rattle.ls_machine.specs.Outcomes.{Came}
use Rattle.ls_machine.specs.Takes.{IsUnseen}

-- so many steps of thread n, and then others
abbrev pub turns : ℕ → ℕ → List ℕ → List ℕ
turns zero n rest = rest
turns (suc count) n rest = turns count n (n ∷ rest)

-- the machine with another thread n and other cells
abbrev pub standing_at : Machine → ℕ → Thread → Cells → Machine
standing_at m n t c = record m { threads = slice_set m.threads n t; cells = c }

-- a step of thread n that is no event and doesn't stop the machine
abbrev pub outcome_at : Code → ℕ → KeptThread → Cells → StepResult
outcome_at p n t c = performed c n t.thread (thread_move p t.thread)

pub record IsUnseenStep (p : Code) (n : ℕ) (old new : KeptThread) (c c' : Cells) : Type 0 where
  pub came : Came (outcome_at p n old c) old new c' (outcome_at p n old c).did
  pub unseen : IsUnseen (outcome_at p n old c).did
  pub left : events_left new.thread ≤ events_left old.thread

-- On a machine that hasn't stopped, and whose thread n is due, so many steps of thread n change that thread and the
-- cells, and nothing else.
abbrev pub Runs : Code → ℕ → ℕ → Thread → Thread → Cells → Cells → Type 0
Runs p n count t t' c c' = (m : Machine) (rest : List ℕ) → m.code ≡ p → slice_get m.threads n ≡ Some t → m.cells ≡ c →
    m.stopped ≡ false → is_due m.threads n t ≡ true → machine_run m (turns count n rest) ≡ machine_run
    (standing_at m n t' c') rest

-- such steps, after which the thread has its calls and memory, and there are as many cells
pub record Stays (p : Code) (n count : ℕ) (old new : KeptThread) (c c' : Cells) : Type 0 where
  pub runs : Runs p n count old.thread new.thread c c'
  pub memory : new ≡ keeping_thread old new.thread
  pub calls : new.thread.calls ≡ old.thread.calls
  pub left : events_left new.thread ≤ events_left old.thread
  pub limit : c'.limit ≡ c.limit
  pub names : c'.names ≡ c.names
  pub sizes : c'.sizes ≡ c.sizes
