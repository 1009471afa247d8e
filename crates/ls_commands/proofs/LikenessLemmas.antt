-- Answers by a reference that may be given, and what `batch` may answer by one.
use Rattle.std.proofs.Common.{◌↔◌, ◌≡◌, ℕ, List, Result, Ok, Err, refl, subst, sym}
use Rattle.std.specs.Prelude.{IsErrOf, String}
use Rattle.std.specs.Global.{Global}
use Rattle.ls_checked.specs.CheckedTree.{File}
use Rattle.ls_checked.specs.CheckedProgram.{Program}
use Rattle.ls_checked.specs.PlainProgram.{plain_program}
use Rattle.ls_checked.specs.declared.program.Program.{Program as CodeProgram}
use Rattle.ls_machine.specs.Room.{AreBadCells}
use Rattle.ls_image.specs.Images.{code_of_image, program_of_image}
use Rattle.ls_image.specs.declared.image.Image.{Image}
use Rattle.ls_specified.specs.Specified.{IsNoSpecification, Specifies}
use Rattle.ls_specified.specs.declared.fault.SpecificationFault.{SpecificationFault}
use Rattle.ls_batch.specs.Samples.{histories_of, IsBadCount}
use Rattle.ls_batch.specs.Tallies.{IsTally, Row}
use Rattle.ls_batch.specs.declared.fault.BatchFault.{BatchFault}
use Rattle.ls_batch.specs.declared.fault.BatchFault.TheVariants as batch
use Rattle.ls_batch.specs.Judged.{IsJudgedLike}
use Rattle.ls_report.specs.Events.{Text}
use Rattle.ls_faults.specs.Faults.{lifted_batch, lifted_specification}
use Rattle.ls_faults.specs.Given.{GivesText}
use Rattle.ls_faults.specs.declared.fault.ToolFault.{ToolFault}
use Rattle.ls_faults.proofs.Answering.{Failed, fails, wider}
use Rattle.ls_commands.proofs.Answering.{not_refused}
use Rattle.ls_commands.specs.Compiled.{file_of_image, plain_program_of}
use Rattle.ls_commands.specs.Likeness.{AnswersLike, BadCount, JudgedLike, Judges, NoCells, NotSpecified}
use Rattle.ls_commands.specs.Likeness.{OnSpecification}
use Rattle.ls_commands.specs.declared.batching.Sampling.{Sampling}

module _ (reference program : Text) (i : Image) (May : Image → Result Text ToolFault → Type 0) (p : CodeProgram)
    (is : p ≡ program_of_image i) where
  -- where a class text doesn't specify the image's program, and where it does
  pub not_specified : (f : SpecificationFault) →
      IsNoSpecification reference program (plain_program p) f →
      GivesText (AnswersLike reference program i May) (Failed (lifted_specification f))
  not_specified f h =
      fails (AnswersLike reference program i May) (lifted_specification f)
      (NotSpecified f (subst (λ q. IsNoSpecification reference program (plain_program q) f) is h))

  pub on_specification : (s : Image) (r : Result (String Global) ToolFault) →
      Specifies reference program (plain_program p) s →
      GivesText (May s) r →
      GivesText (AnswersLike reference program i May) r
  on_specification s r h given =
      wider (May s) (AnswersLike reference program i May) r
      (λ a m. OnSpecification s a (subst (λ q. Specifies reference program (plain_program q) s) is h) m) given

-- ---- `batch`

module _ (s i : Image) (cells : ℕ) (a : Sampling) where
  abbrev Bad : Type 0
  Bad = AreBadCells (code_of_image i).names cells

  abbrev Many : Type 0
  Many = IsBadCount a.first a.count a.drawing

  abbrev Refused : BatchFault → Result (List Row) BatchFault
  Refused f = Err f

  pub like_fails : (f : BatchFault) →
      (IsErrOf (Refused f) batch.BadCells ↔ Bad) →
      (IsErrOf (Refused f) batch.BadCount ↔ (¬ Bad × Many)) →
      GivesText (JudgedLike s i cells a) (Err (lifted_batch f))
  like_fails batch.Memory bad many = tt
  like_fails batch.BadCells bad many = NoCells (bad.0 refl)
  like_fails batch.BadCount bad many = BadCount (many.0 refl).0 (many.0 refl).1

  pub like_tells : (rows : List Row) (t : Text) (sfile : File) (sprogram p : Program) →
      sfile ≡ file_of_image s →
      sprogram ≡ plain_program_of s →
      p ≡ plain_program_of i →
      (IsErrOf {E = BatchFault} (Ok rows) batch.BadCells ↔ Bad) →
      (IsErrOf {E = BatchFault} (Ok rows) batch.BadCount ↔ (¬ Bad × Many)) →
      IsTally (histories_of (code_of_image i) cells a.first a.count a.drawing) a.first rows →
      IsJudgedLike sfile sprogram p rows t → JudgedLike s i cells a (Ok t)
  like_tells rows t sfile sprogram p ef es ep bad many is told =
      let of_file : IsJudgedLike (file_of_image s) sprogram p rows t =
      subst (λ f. IsJudgedLike f sprogram p rows t) ef told in
      let of_both : IsJudgedLike (file_of_image s) (plain_program_of s) p rows t =
      subst (λ q. IsJudgedLike (file_of_image s) q p rows t) es of_file in
      let so : IsJudgedLike (file_of_image s) (plain_program_of s) (plain_program_of i) rows t =
      subst (λ q. IsJudgedLike (file_of_image s) (plain_program_of s) q rows t) ep of_both in
      let good : ¬ Bad = not_refused rows batch.BadCells Bad bad in
      subst (λ x. JudgedLike s i cells a (Ok x)) (sym so.text_is)
      (Judges rows so.said good (λ m. not_refused rows batch.BadCount (¬ Bad × Many) many (good, m)) is so.are)
