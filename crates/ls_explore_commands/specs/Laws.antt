-- Schedules that are printed: of rows, and of verdicts.
use Rattle.ls_events.specs.Limits.{most_steps}
use Rattle.std.specs.Prelude.{◌≡◌, ◌≤◌, ℕ, List, length, take, Ok, Contains}
use Rattle.ls_image.specs.Images.{Compiles}
use Rattle.ls_image.specs.declared.image.Image.{Image}
use Rattle.ls_translation.specs.Texts.{file_of, program_of}
use Rattle.ls_schedule.specs.Printing.{schedule_text}
use Rattle.ls_schedule.specs.Reading.{schedule_of as steps_of}
use Rattle.ls_explore.specs.Rows.{Told}
use Rattle.ls_explore.specs.Tellings.{TellTruth, schedule_of}
use Rattle.ls_commands.specs.Compiled.{names_of_image}
use Rattle.ls_report.specs.Events.{Text}
use Rattle.ls_explore_commands.specs.Readable.{AreReadBack}

-- what is printed of a row's schedule, of at most 1,000,000 steps, reads back as the same
abbrev pub RowsReadBack : Type 0
RowsReadBack =
    (classes program : Text) (i : Image) (k : ℕ) (rows : List Told) (r : Told) → Compiles classes program i →
    TellTruth (file_of i) (program_of i) k rows → Contains rows r → length (schedule_of k r) ≤ most_steps →
    steps_of (names_of_image i) (schedule_text (names_of_image i) (schedule_of k r)) ≡ Ok (schedule_of k r)

-- so does what is printed of so many steps of it
abbrev pub BeginningsReadBack : Type 0
BeginningsReadBack =
    (classes program : Text) (i : Image) (k : ℕ) (rows : List Told) (r : Told) (n : ℕ) → Compiles classes program i →
    TellTruth (file_of i) (program_of i) k rows → Contains rows r → length (take n (schedule_of k r)) ≤ most_steps →
    steps_of (names_of_image i) (schedule_text (names_of_image i) (take n (schedule_of k r)))
    ≡ Ok (take n (schedule_of k r))

-- so does what is printed of any schedule of at most 1,000,000 steps, each of which acts, as that of a verdict is
abbrev pub VerdictsReadBack : Type 0
VerdictsReadBack = (classes program : Text) (i : Image) → Compiles classes program i → AreReadBack i
