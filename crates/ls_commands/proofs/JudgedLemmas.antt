-- What `batch` may answer with `--judge`.
use Rattle.std.proofs.Common.{◌≡◌, ◌↔◌, ◌<◌, ℕ, zero, suc, ◌+◌, List, [], ◌∷◌, length, Some, Result, Ok, Err, refl, sym}
use Rattle.std.proofs.Common.{subst, arith}
use Rattle.std.specs.Prelude.{IsErrOf, map, slice_get, slice_index_or}
use Rattle.std.specs.List.{range_with_len}
use Rattle.ls_code.specs.Machine.{machine_history}
use Rattle.ls_checked.specs.CheckedTree.{File}
use Rattle.ls_checked.specs.CheckedProgram.{Program}
use Rattle.ls_events.specs.declared.event.Event.{Event as RunEvent}
use Rattle.ls_machine.specs.Room.{AreBadCells}
use Rattle.ls_image.specs.Images.{code_of_image}
use Rattle.ls_image.specs.declared.image.Image.{Image}
use Rattle.ls_batch.specs.Replays.{SeedsReplay}
use Rattle.ls_batch.specs.Samples.{histories_of, history_of, IsBadCount, seed_schedule}
use Rattle.ls_batch.specs.Tallies.{IsTally, Row}
use Rattle.ls_batch.specs.declared.fault.BatchFault.{BatchFault}
use Rattle.ls_batch.specs.declared.fault.BatchFault.TheVariants as batch
use Rattle.ls_batch.specs.Judged.{AreHistoriesOf, IsJudged}
use Rattle.ls_report.specs.Events.{Text}
use Rattle.ls_text_laws.specs.Histories.{IsReadable}
use Rattle.ls_verdicts.specs.Verdicts.{IsHistoryOf}
use Rattle.ls_faults.specs.Faults.{lifted_batch}
use Rattle.ls_faults.specs.Given.{GivesText}
use Rattle.ls_commands.proofs.Answering.{not_refused}
use Rattle.ls_commands.proofs.ReadBackLemmas.{are_cells}
use Rattle.ls_commands.specs.Compiled.{file_of_image, plain_program_of}
use Rattle.ls_commands.specs.Judged.{BadCount, Judged, Judges, NoCells}
use Rattle.ls_commands.specs.ReadableRuns.{RunsAreReadable}
use Rattle.ls_commands.specs.declared.batching.Sampling.{Sampling}

-- an item of what f makes is made of one
of_one : {A B : Type 0} (f : A → B) (xs : List A) (k : ℕ) (y : B) →
    slice_get (map f xs) k ≡ Some y →
    (x : A) × (y ≡ f x)
of_one f [] k y e = let h : ⊥ = cc in absurd h
of_one f (x ∷ xs) zero y e = let same : y ≡ f x = cc in (x, same)
of_one f (x ∷ xs) (suc k) y e = of_one f xs k y e

get_within : {A : Type 0} (xs : List A) (k : ℕ) (d : A) → k < length xs → slice_get xs k ≡ Some (slice_index_or xs k d)
get_within [] k d h = absurd (omega arith)
get_within (x ∷ xs) zero d h = refl
get_within (x ∷ xs) (suc k) d h = get_within xs k d (omega arith)

readable_named : (p : Program) (run : List RunEvent) → IsReadable p run → IsHistoryOf p run
readable_named p run r = (r.events, record { is_named = r.is_named; history = r.says.history })

module _ (i : Image) (cells : ℕ) (s : Sampling) where
  abbrev Bad : Type 0
  Bad = AreBadCells (code_of_image i).names cells

  abbrev Many : Type 0
  Many = IsBadCount s.first s.count s.drawing

  abbrev Refused : BatchFault → Result (List Row) BatchFault
  Refused f = Err f

  abbrev AreRows : List Row → Type 0
  AreRows rows = IsTally (histories_of (code_of_image i) cells s.first s.count s.drawing) s.first rows

  -- each row's history is that of a machine's run
  seed_named : RunsAreReadable i →
      SeedsReplay →
      ¬ Bad →
      (seed : ℕ) →
      IsHistoryOf (plain_program_of i) (history_of (code_of_image i) cells seed s.drawing)
  seed_named readable replay good seed =
      let code = code_of_image i in
      let r = replay code cells seed s.drawing in
      let steps = seed_schedule code cells seed s.drawing in
      subst (IsHistoryOf (plain_program_of i)) (sym r.history)
      (readable_named (plain_program_of i) (machine_history code cells steps)
      (readable cells (are_cells code cells good) steps))

  row_named : RunsAreReadable i →
      SeedsReplay →
      ¬ Bad →
      (rows : List Row) →
      AreRows rows →
      (k : ℕ) (r : Row) →
      slice_get rows k ≡ Some r →
      IsHistoryOf (plain_program_of i) r.history
  row_named readable replay good rows is k r e =
      let t = is.tells k r e in
      let from = of_one (λ n. history_of (code_of_image i) cells (s.first + n) s.drawing) (range_with_len 0 s.count)
      t.at r.history t.there in
      subst (IsHistoryOf (plain_program_of i)) (sym from.1) (seed_named readable replay good (s.first + from.0))

  pub rows_named : RunsAreReadable i →
      SeedsReplay →
      (rows : List Row) →
      (IsErrOf {E = BatchFault} (Ok rows) batch.BadCells ↔ Bad) →
      AreRows rows →
      AreHistoriesOf (plain_program_of i) rows
  rows_named readable replay rows bad is =
      λ k d within. row_named readable replay (not_refused rows batch.BadCells Bad bad) rows is k
      (slice_index_or rows k d) (get_within rows k d within)

  pub judging_fails : (f : BatchFault) →
      (IsErrOf (Refused f) batch.BadCells ↔ Bad) →
      (IsErrOf (Refused f) batch.BadCount ↔ (¬ Bad × Many)) →
      GivesText (Judged i cells s) (Err (lifted_batch f))
  judging_fails batch.Memory bad many = tt
  judging_fails batch.BadCells bad many = NoCells (bad.0 refl)
  judging_fails batch.BadCount bad many = BadCount (many.0 refl).0 (many.0 refl).1

  pub judging_tells : (rows : List Row) (t : Text) (file : File) (p : Program) →
      file ≡ file_of_image i →
      p ≡ plain_program_of i →
      (IsErrOf {E = BatchFault} (Ok rows) batch.BadCells ↔ Bad) →
      (IsErrOf {E = BatchFault} (Ok rows) batch.BadCount ↔ (¬ Bad × Many)) →
      AreRows rows → IsJudged file p rows t → Judged i cells s (Ok t)
  judging_tells rows t file p ef ep bad many is told =
      let of_file : IsJudged (file_of_image i) p rows t = subst (λ f. IsJudged f p rows t) ef told in
      let so : IsJudged (file_of_image i) (plain_program_of i) rows t =
      subst (λ q. IsJudged (file_of_image i) q rows t) ep of_file in
      let good : ¬ Bad = not_refused rows batch.BadCells Bad bad in
      subst (λ x. Judged i cells s (Ok x)) (sym so.text_is)
      (Judges rows so.said good (λ m. not_refused rows batch.BadCount (¬ Bad × Many) many (good, m)) is so.are)
