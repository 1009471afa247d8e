-- What the command `sample` says.
use Rattle.std.specs.Prelude.{◌≡◌, ℕ, Result, Ok, Err}
use Rattle.ls_machine.specs.Room.{AreBadCells}
use Rattle.ls_image.specs.Images.{code_of_image}
use Rattle.ls_image.specs.declared.image.Image.{Image}
use Rattle.ls_schedule.specs.Printing.{schedule_text}
use Rattle.ls_schedule.specs.Reading.{schedule_of}
use Rattle.ls_batch.specs.Samples.{history_of, IsBadCount, seed_schedule}
use Rattle.ls_batch.specs.declared.fault.BatchFault.TheVariants as batch
use Rattle.ls_batch.specs.declared.samples.Sampler.{Sampler}
use Rattle.ls_report.specs.Events.{Text}
use Rattle.ls_report.specs.Printing.{run_text}
use Rattle.ls_faults.specs.declared.fault.ToolFault.{ToolFault}
use Rattle.ls_faults.specs.declared.fault.ToolFault.TheVariants as faults
use Rattle.ls_commands.specs.Compiled.{AnswersOn, names_of_image, plain_program_of, Replayed}

-- the schedule that `batch` runs for the seed
abbrev pub sample_text : Image → ℕ → ℕ → Sampler → Text
sample_text i cells seed d = schedule_text (names_of_image i) (seed_schedule (code_of_image i) cells seed d)

-- What is printed reads back as the seed's schedule, and `replay` of it prints the history that `batch` counts for the
-- seed.
pub record ReplaysAsSeed (i : Image) (cells seed : ℕ) (d : Sampler) : Type 0 where
  pub schedule : schedule_of (names_of_image i) (sample_text i cells seed d) ≡ Ok
      (seed_schedule (code_of_image i) cells seed d)
  pub replays : Replayed i cells (schedule_of (names_of_image i) (sample_text i cells seed d))
      (Ok (run_text (plain_program_of i) (history_of (code_of_image i) cells seed d)))

-- The schedule of the seed, of which more is said; or the cells are too few or too many, or the drawing is bad.
pub data Sampled (i : Image) (cells seed : ℕ) (d : Sampler) (More : Type 0) : Result Text ToolFault → Type 0 where
  Samples : ¬ AreBadCells (code_of_image i).names cells →
      ¬ IsBadCount seed 1 d →
      More →
      Sampled i cells seed d More (Ok (sample_text i cells seed d))
  NoCells : AreBadCells (code_of_image i).names cells → Sampled i cells seed d More (Err faults.BadCells)
  BadCount : ¬ AreBadCells (code_of_image i).names cells →
      IsBadCount seed 1 d →
      Sampled i cells seed d More (Err (faults.Batch batch.BadCount))

abbrev pub SampledOf : ℕ → ℕ → Sampler → Image → Result Text ToolFault → Type 0
SampledOf cells seed d i answer = Sampled i cells seed d (ReplaysAsSeed i cells seed d) answer

abbrev pub SamplesTo : ℕ → ℕ → Sampler → Text → Text → Result Text ToolFault → Type 0
SamplesTo cells seed d classes program answer = AnswersOn classes program (SampledOf cells seed d) answer
