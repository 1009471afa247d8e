-- Schedules each of whose steps acts are read as they are printed.
use Rattle.std.proofs.Common.{◌≡◌, ◌<◌, ◌≤◌, ◌∙◌, ℕ, List, Ok, ap, length, subst, sym}
use Rattle.std.specs.Prelude.{All}
use Rattle.std.proofs.lemmas.List.{length-map}
use Rattle.ls_checked.specs.PlainProgram.{plain_thread}
use Rattle.ls_events.specs.Limits.{most_steps}
use Rattle.ls_explore.specs.Rows.{ActAll}
use Rattle.ls_fewest_switches.proofs.ActingSteps.{all_there}
use Rattle.ls_image.specs.Images.{Compiles, checked_of, program_of_image}
use Rattle.ls_image.specs.declared.image.Image.{Image}
use Rattle.ls_schedule.specs.Printing.{schedule_text}
use Rattle.ls_schedule.specs.Reading.{schedule_of, thread_name, thread_names}
use Rattle.ls_text_laws.specs.Schedules.{SchedulesReadBack}
use Rattle.ls_translation.specs.Texts.{file_of, program_of}
use Rattle.ls_types_checked.specs.CheckedFile.{elaborated_file}
use Rattle.ls_find.specs.Found.{Text}

-- each of the steps is one of a thread that exists
steps_there : (i : Image) (schedule : List ℕ) → ActAll (file_of i) (program_of i) schedule →
    All (λ t. t < length (thread_names (program_of_image i))) schedule
steps_there i schedule acts =
    let count = length-map (program_of_image i).threads.items thread_name
    ∙ sym (length-map (program_of_image i).threads.items plain_thread) in
    subst (λ n. All (λ t. t < n) schedule) (sym count) (all_there (file_of i) (program_of i) schedule acts)

pub read_back : SchedulesReadBack → (classes program : Text) (i : Image) (schedule : List ℕ) (text : Text) →
    Compiles classes program i → ActAll (file_of i) (program_of i) schedule → length schedule ≤ most_steps →
    text ≡ schedule_text (thread_names (program_of_image i)) schedule →
    schedule_of (thread_names (program_of_image i)) text ≡ Ok schedule
read_back reads classes program i schedule text compiles acts few said =
    ap (schedule_of (thread_names (program_of_image i))) said ∙
    reads (elaborated_file (checked_of i)) program (program_of_image i) schedule compiles.reads
    (record { there = steps_there i schedule acts; short = few })
