-- Schedules each of whose steps acts are read as they are printed.
use Rattle.std.proofs.Common.{◌<◌, ◌∙◌, ℕ, List, length, sym, subst, take}
use Rattle.std.specs.Prelude.{All}
use Rattle.std.proofs.lemmas.List.{length-map}
use Rattle.std.proofs.lemmas.List.Elements.{All-take}
use Rattle.ls_checked.specs.PlainProgram.{plain_thread}
use Rattle.ls_image.specs.Images.{checked_of, program_of_image}
use Rattle.ls_image.specs.declared.image.Image.{Image}
use Rattle.ls_types_checked.specs.CheckedFile.{elaborated_file}
use Rattle.ls_translation.specs.Texts.{file_of, program_of}
use Rattle.ls_schedule.specs.Reading.{thread_name, thread_names}
use Rattle.ls_text_laws.specs.Schedules.{SchedulesReadBack}
use Rattle.ls_search_laws.specs.Stepping.{ActAll}
use Rattle.ls_explore.specs.Tellings.{schedule_of}
use Rattle.ls_fewest_switches.proofs.ActingSteps.{all_there}
use Rattle.ls_explore_commands.specs.Laws.{BeginningsReadBack, RowsReadBack, VerdictsReadBack}

-- each of the steps is one of a thread that exists
steps_there : (i : Image) (schedule : List ℕ) → ActAll (file_of i) (program_of i) schedule →
    All (λ t. t < length (thread_names (program_of_image i))) schedule
steps_there i schedule acts =
    let count = length-map (program_of_image i).threads.items thread_name
    ∙ sym (length-map (program_of_image i).threads.items plain_thread) in
    subst (λ n. All (λ t. t < n) schedule) (sym count) (all_there (file_of i) (program_of i) schedule acts)

pub verdicts_read_back : SchedulesReadBack → VerdictsReadBack
verdicts_read_back reads classes program i compiles schedule acts few =
    reads (elaborated_file (checked_of i)) program (program_of_image i) schedule compiles.reads
    (record { there = steps_there i schedule acts; short = few })

pub rows_read_back : SchedulesReadBack → RowsReadBack
rows_read_back reads classes program i k rows r compiles truth within few =
    verdicts_read_back reads classes program i compiles (schedule_of k r) (truth.acts r within) few

pub beginnings_read_back : SchedulesReadBack → BeginningsReadBack
beginnings_read_back reads classes program i k rows r n compiles truth within few =
    reads (elaborated_file (checked_of i)) program (program_of_image i) (take n (schedule_of k r)) compiles.reads
    (record {
      there = All-take (λ t. t < length (thread_names (program_of_image i))) n (schedule_of k r)
          (steps_there i (schedule_of k r) (truth.acts r within));
      short = few;
    })
