-- What a function of a step leaves and answers.
use Rattle.std.specs.Prelude.{◌≡◌, ℕ}
use Rattle.ls_code.specs.Cells.{Cells}
use Rattle.ls_code.specs.Code.{Code}
use Rattle.ls_code.specs.Steps.{StepResult, performed, thread_move}
use Rattle.ls_code.specs.declared.step.Did.TheVariants as did
use Rattle.ls_code.specs.declared.step.Did.{Did}
use Rattle.ls_machine_threads.specs.Memory.{KeptThread, keeping_thread}

-- it is this outcome
abbrev pub Came : StepResult → KeptThread → KeptThread → Cells → Did → Type 0
Came o old new cells d = (new ≡ keeping_thread old o.thread) × (cells ≡ o.cells) × (d ≡ o.did)

-- the thread's step is silent, whatever its number and the cells are
abbrev pub IsSilentMove : Code → KeptThread → KeptThread → Type 0
IsSilentMove p old new = (cells : Cells) (number : ℕ) → Came
    (performed cells number old.thread (thread_move p old.thread)) old new cells did.Silent
