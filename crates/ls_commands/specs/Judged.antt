-- What the command `batch` says with `--judge`.
use Rattle.std.specs.Prelude.{ℕ, List, Result, Ok, Err}
use Rattle.ls_machine.specs.Room.{AreBadCells}
use Rattle.ls_image.specs.Images.{code_of_image}
use Rattle.ls_image.specs.declared.image.Image.{Image}
use Rattle.ls_batch.specs.Samples.{histories_of, IsBadCount}
use Rattle.ls_batch.specs.Tallies.{IsTally, Row}
use Rattle.ls_batch.specs.declared.fault.BatchFault.TheVariants as batch
use Rattle.ls_batch.specs.Judged.{AreJudgements, judged_text}
use Rattle.ls_batch.specs.declared.judging.Judgement.{Judgement}
use Rattle.ls_report.specs.Events.{Text}
use Rattle.ls_faults.specs.declared.fault.ToolFault.{ToolFault}
use Rattle.ls_faults.specs.declared.fault.ToolFault.TheVariants as faults
use Rattle.ls_commands.specs.declared.batching.Sampling.{Sampling}
use Rattle.ls_commands.specs.Compiled.{AnswersOn, file_of_image, plain_program_of}

-- The tally of the seeds' histories, with what there is to say of each: the verdict on set calls, and whether it is
-- linearizable to the serial runs of the program. Or the cells are too few or too many, or the seeds or the drawing are
-- bad.
pub data Judged (i : Image) (cells : ℕ) (s : Sampling) : Result Text ToolFault → Type 0 where
  Judges : (rows : List Row) (said : List Judgement) →
      ¬ AreBadCells (code_of_image i).names cells →
      ¬ IsBadCount s.first s.count s.drawing →
      IsTally (histories_of (code_of_image i) cells s.first s.count s.drawing) s.first rows →
      AreJudgements (file_of_image i) (plain_program_of i) rows said →
      Judged i cells s (Ok (judged_text (plain_program_of i) rows said))
  NoCells : AreBadCells (code_of_image i).names cells → Judged i cells s (Err faults.BadCells)
  BadCount : ¬ AreBadCells (code_of_image i).names cells →
      IsBadCount s.first s.count s.drawing →
      Judged i cells s (Err (faults.Batch batch.BadCount))

abbrev pub JudgesTo : ℕ → Sampling → Text → Text → Result Text ToolFault → Type 0
JudgesTo cells s classes program answer = AnswersOn classes program (λ i. Judged i cells s) answer
