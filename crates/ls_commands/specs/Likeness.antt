-- What commands answer of a program by a reference.
use Rattle.std.specs.Prelude.{ℕ, List, Result, Ok, Err}
use Rattle.ls_machine.specs.Room.{AreBadCells}
use Rattle.ls_image.specs.Images.{checked_of, code_of_image}
use Rattle.ls_image.specs.declared.image.Image.{Image}
use Rattle.ls_types_checked.specs.CheckedFile.{elaborated_file}
use Rattle.ls_specified.specs.Specified.{IsNoSpecification, Specifies}
use Rattle.ls_specified.specs.declared.fault.SpecificationFault.{SpecificationFault}
use Rattle.ls_batch.specs.Samples.{histories_of, IsBadCount}
use Rattle.ls_batch.specs.Tallies.{IsTally, Row}
use Rattle.ls_batch.specs.declared.fault.BatchFault.TheVariants as batch
use Rattle.ls_batch.specs.Judged.{AreJudgementsLike, judged_text}
use Rattle.ls_batch.specs.declared.judging.Judgement.{Judgement}
use Rattle.ls_report.specs.Events.{Text}
use Rattle.ls_faults.specs.Faults.{lifted_specification}
use Rattle.ls_faults.specs.declared.fault.ToolFault.{ToolFault}
use Rattle.ls_faults.specs.declared.fault.ToolFault.TheVariants as faults
use Rattle.ls_commands.specs.declared.batching.Sampling.{Sampling}
use Rattle.ls_commands.specs.Compiled.{AnswersOn, file_of_image, plain_program_of}
use Rattle.ls_commands.specs.SerialOrdered.{OrdersOf}

-- The reference specifies the image's program, and the answer is one that may be given by its image; or it doesn't, and
-- the answer is the fault.
pub data AnswersLike (reference program : Text) (i : Image) (May : Image → Result Text ToolFault → Type 0)
    : Result Text ToolFault → Type 0 where
  OnSpecification : (s : Image) (answer : Result Text ToolFault) →
      Specifies reference program (plain_program_of i) s →
      May s answer →
      AnswersLike reference program i May answer
  NotSpecified : (f : SpecificationFault) →
      IsNoSpecification reference program (plain_program_of i) f →
      AnswersLike reference program i May (Err (lifted_specification f))

-- ---- the command `order`

-- the history part is one of the program, told by the calls of the reference
abbrev pub OrdersLike : Text → Text → Text → Text → Result Text ToolFault → Type 0
OrdersLike reference classes program history answer =
    AnswersOn classes program
    (λ i. AnswersLike reference program i
    (λ s. OrdersOf (elaborated_file (checked_of s)) (plain_program_of s) history)) answer

-- ---- the command `batch`

-- The tally of the seeds' histories, with what there is to say of each by the program of another image: whether it is
-- linearizable to its serial runs. Or the cells are too few or too many, or the seeds or the drawing are bad.
pub data JudgedLike (s i : Image) (cells : ℕ) (a : Sampling) : Result Text ToolFault → Type 0 where
  Judges : (rows : List Row) (said : List Judgement) →
      ¬ AreBadCells (code_of_image i).names cells →
      ¬ IsBadCount a.first a.count a.drawing →
      IsTally (histories_of (code_of_image i) cells a.first a.count a.drawing) a.first rows →
      AreJudgementsLike (file_of_image s) (plain_program_of s) rows said →
      JudgedLike s i cells a (Ok (judged_text (plain_program_of i) rows said))
  NoCells : AreBadCells (code_of_image i).names cells → JudgedLike s i cells a (Err faults.BadCells)
  BadCount : ¬ AreBadCells (code_of_image i).names cells →
      IsBadCount a.first a.count a.drawing →
      JudgedLike s i cells a (Err (faults.Batch batch.BadCount))

abbrev pub JudgesLike : ℕ → Sampling → Text → Text → Text → Result Text ToolFault → Type 0
JudgesLike cells a reference classes program answer =
    AnswersOn classes program (λ i. AnswersLike reference program i (λ s. JudgedLike s i cells a)) answer
