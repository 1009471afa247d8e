-- What `batch` may answer.
use Rattle.std.proofs.Common.{◌≡◌, ◌↔◌, ℕ, List, Result, Ok, Err, refl, sym, subst}
use Rattle.std.specs.Prelude.{IsErrOf}
use Rattle.ls_machine.specs.Room.{AreBadCells}
use Rattle.ls_image.specs.Images.{code_of_image}
use Rattle.ls_image.specs.declared.image.Image.{Image}
use Rattle.ls_batch.specs.Printing.{tally_text}
use Rattle.ls_batch.specs.Samples.{histories_of, IsBadCount}
use Rattle.ls_batch.specs.Tallies.{IsTally, Row}
use Rattle.ls_batch.specs.declared.fault.BatchFault.{BatchFault}
use Rattle.ls_batch.specs.declared.fault.BatchFault.TheVariants as batch
use Rattle.ls_report.specs.Events.{Text}
use Rattle.ls_faults.specs.Faults.{lifted_batch}
use Rattle.ls_faults.specs.Given.{GivesText}
use Rattle.ls_commands.proofs.Answering.{not_refused}
use Rattle.ls_commands.specs.Compiled.{plain_program_of}
use Rattle.ls_commands.specs.Tallied.{BadCount, NoCells, Tallied, Tallies}
use Rattle.ls_commands.specs.declared.batching.Sampling.{Sampling}

module _ (i : Image) (cells : ℕ) (s : Sampling) where
  abbrev Bad : Type 0
  Bad = AreBadCells (code_of_image i).names cells

  abbrev Many : Type 0
  Many = IsBadCount s.first s.count s.drawing

  abbrev Refused : BatchFault → Result (List Row) BatchFault
  Refused f = Err f

  pub batch_fails : (f : BatchFault) →
      (IsErrOf (Refused f) batch.BadCells ↔ Bad) →
      (IsErrOf (Refused f) batch.BadCount ↔ (¬ Bad × Many)) →
      GivesText (Tallied i cells s) (Err (lifted_batch f))
  batch_fails batch.Memory bad many = tt
  batch_fails batch.BadCells bad many = NoCells (bad.0 refl)
  batch_fails batch.BadCount bad many = BadCount (many.0 refl).0 (many.0 refl).1

  pub batch_tells : (rows : List Row) (t : Text) →
      (IsErrOf {E = BatchFault} (Ok rows) batch.BadCells ↔ Bad) →
      (IsErrOf {E = BatchFault} (Ok rows) batch.BadCount ↔ (¬ Bad × Many)) →
      IsTally (histories_of (code_of_image i) cells s.first s.count s.drawing) s.first rows →
      t ≡ tally_text (plain_program_of i) rows → Tallied i cells s (Ok t)
  batch_tells rows t bad many is said =
      let good : ¬ Bad = not_refused rows batch.BadCells Bad bad in
      subst (λ x. Tallied i cells s (Ok x)) (sym said) (Tallies rows good
      (λ m. not_refused rows batch.BadCount (¬ Bad × Many) many (good, m)) is)
