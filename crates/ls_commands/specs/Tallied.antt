-- What the command `batch` says.
use Rattle.std.specs.Prelude.{ℕ, List, Result, Ok, Err}
use Rattle.ls_machine.specs.Room.{AreBadCells}
use Rattle.ls_image.specs.Images.{code_of_image}
use Rattle.ls_image.specs.declared.image.Image.{Image}
use Rattle.ls_batch.specs.Printing.{tally_text}
use Rattle.ls_batch.specs.Samples.{histories_of, IsBadCount}
use Rattle.ls_batch.specs.Tallies.{IsTally, Row}
use Rattle.ls_batch.specs.declared.fault.BatchFault.TheVariants as batch
use Rattle.ls_batch.specs.declared.samples.Sampler.{Sampler}
use Rattle.ls_report.specs.Events.{Text}
use Rattle.ls_faults.specs.declared.fault.ToolFault.{ToolFault}
use Rattle.ls_faults.specs.declared.fault.ToolFault.TheVariants as faults
use Rattle.ls_commands.specs.declared.batching.Sampling.{Sampling}
use Rattle.ls_commands.specs.Compiled.{AnswersOn, plain_program_of}

abbrev pub drawing : ℕ → ℕ → Sampler
drawing steps switch = record { steps = steps; switch = switch }

abbrev pub sampling : ℕ → ℕ → Sampler → Sampling
sampling first count d = record { first = first; count = count; drawing = d }

-- the tally of the seeds' histories; or the cells are too few or too many, or the seeds or the drawing are bad
pub data Tallied (i : Image) (cells : ℕ) (s : Sampling) : Result Text ToolFault → Type 0 where
  Tallies : (rows : List Row) → ¬ AreBadCells (code_of_image i).names cells → ¬ IsBadCount s.first s.count s.drawing →
      IsTally (histories_of (code_of_image i) cells s.first s.count s.drawing) s.first rows →
      Tallied i cells s (Ok (tally_text (plain_program_of i) rows))
  NoCells : AreBadCells (code_of_image i).names cells → Tallied i cells s (Err faults.BadCells)
  BadCount : ¬ AreBadCells (code_of_image i).names cells →
      IsBadCount s.first s.count s.drawing →
      Tallied i cells s (Err (faults.Batch batch.BadCount))

abbrev pub TalliesTo : ℕ → Sampling → Text → Text → Result Text ToolFault → Type 0
TalliesTo cells s classes program answer = AnswersOn classes program (λ i. Tallied i cells s) answer
