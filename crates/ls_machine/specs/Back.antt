-- A machine that is set back to its start.
use Rattle.std.specs.Prelude.{◌≡◌, ℕ, ◌*◌, ◌≤◌, List, [], ◌∷◌, length, map}
use Rattle.std.specs.List.{All, sum_by}
use Rattle.ls_code.specs.Code.{Code, Start}
use Rattle.ls_code.specs.Cells.{Cells}
use Rattle.ls_code.specs.Machine.{Machine, machine_run}
use Rattle.ls_machine_threads.specs.Memory.{KeptThread, back_at}

-- each thread at its start
abbrev pub all_back : List Start → List KeptThread → List KeptThread
all_back [] ts = ts
all_back (s ∷ ss) [] = []
all_back (s ∷ ss) (t ∷ ts) = back_at s t ∷ all_back ss ts

-- the threads make the calls of the code's threads and have memory for their lowest frames, the cells are those of the
-- code, and all of the
-- code's events have room
pub record IsOf (p : Code) (threads : List KeptThread) (cells : Cells) (limit : ℕ) : Type 0 where
  pub calls : map (λ t. t.thread.calls) threads ≡ map (λ s. s.calls) p.starts
  pub needs : All (λ t. All (λ s. s.need ≤ t.operands_room) p.starts) threads
  pub names : cells.names ≡ p.names
  pub sizes : cells.sizes ≡ p.sizes
  pub room : p.names ≤ cells.limit
  pub events : sum_by (λ s. 2 * length s.calls) p.starts ≤ limit

-- a run keeps its code and the number of its cells
abbrev pub RunsKeep : Type 0
RunsKeep = (m : Machine) (ns : List ℕ) → ((machine_run m ns).code ≡ m.code) ×
    ((machine_run m ns).cells.limit ≡ m.cells.limit)
