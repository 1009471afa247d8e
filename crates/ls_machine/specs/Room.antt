-- A machine's memory, and when it is refused.
use Rattle.std.specs.Prelude.{◌≡◌, ℕ, ◌+◌, ◌<◌, ◌≤◌, ◌⊎◌, List, length}
use Rattle.std.specs.List.{All, sum_by}
use Rattle.ls_code.specs.Limits.{most_cells}
use Rattle.ls_code.specs.Code.{Code}
use Rattle.ls_machine_threads.specs.Memory.{KeptThread, MethodsFit, events_left}

-- all memory is there: for each frame of each method, and for each event that can still come
pub record HasMemory (p : Code) (threads : List KeptThread) (events limit : ℕ) : Type 0 where
  pub few : length threads ≤ 65
  pub fit : All (λ t. MethodsFit p.methods t.locals_room t.operands_room) threads
  pub events_fit : events + sum_by (λ t. events_left t.thread) threads ≤ limit

-- no cells, too many, or fewer than the setup names
abbrev pub AreBadCells : ℕ → ℕ → Type 0
AreBadCells names cells = (cells ≡ 0) ⊎ (most_cells < cells) ⊎ (cells < names)
