-- Records of live runs.
use Rattle.std.specs.Prelude.{◌≡◌, ℕ, ◌<◌, ◌⊎◌, length, All, true}
use Rattle.ls_code.specs.Code.{Code}
use Rattle.ls_code.specs.Machine.{loaded, machine_run}
use Rattle.ls_live.specs.Answers.{is_over}
use Rattle.ls_schedule.specs.Records.{scheduled}
use Rattle.ls_schedule.specs.declared.replaying.Record.{Record}

-- each step is of a thread that exists
abbrev pub AreThere : Code → Record → Type 0
AreThere code r = All (λ t. t < length code.starts) (scheduled r)

-- each thread is over after the record, or the record has as many steps as it may have
abbrev pub IsDone : Code → ℕ → ℕ → Record → Type 0
IsDone code cells limit r =
    ((t : ℕ) → t < length code.starts → is_over (machine_run (loaded code cells) (scheduled r)) t ≡ true) ⊎
    (length (scheduled r) ≡ limit)
