-- What `sample` may answer.
use Rattle.std.proofs.Common.{◌≡◌, ◌↔◌, ◌<◌, ◌≤◌, ℕ, List, length, Result, Ok, Err, refl, sym, subst, ap, arith}
use Rattle.std.proofs.Common.{inl, inr, ⊎_elim}
use Rattle.std.specs.Prelude.{All, IsErrOf, String}
use Rattle.std.proofs.lemmas.Bool.{cases_lt}
use Rattle.std.specs.Global.{Global}
use Rattle.ls_checked.specs.CheckedProgram.{ThreadProgram}
use Rattle.ls_machine.specs.Room.{AreBadCells}
use Rattle.ls_types_checked.specs.CheckedFile.{elaborated_file}
use Rattle.ls_image.specs.Images.{checked_of, code_of_image, Compiles, program_of_image}
use Rattle.ls_image.specs.declared.image.Image.{Image}
use Rattle.ls_schedule.specs.Reading.{schedule_of}
use Rattle.ls_batch.specs.Replays.{SeedsReplay}
use Rattle.ls_batch.specs.Samples.{history_of, IsBadCount, seed_schedule}
use Rattle.ls_batch.specs.declared.fault.BatchFault.{BatchFault}
use Rattle.ls_batch.specs.declared.fault.BatchFault.TheVariants as batch
use Rattle.ls_batch.specs.declared.samples.Sampler.{Sampler}
use Rattle.ls_report.specs.Events.{Text}
use Rattle.ls_report.specs.Printing.{run_text}
use Rattle.ls_text_laws.specs.Schedules.{SchedulesReadBack}
use Rattle.ls_faults.specs.Faults.{lifted_batch}
use Rattle.ls_faults.specs.Given.{GivesText}
use Rattle.ls_faults.specs.declared.fault.ToolFault.{ToolFault}
use Rattle.ls_faults.proofs.Answering.{wider}
use Rattle.ls_commands.proofs.Answering.{not_refused}
use Rattle.ls_commands.proofs.ReadBackLemmas.{names_count}
use Rattle.ls_commands.specs.Compiled.{names_of_image, plain_program_of, Replayed, Runs}
use Rattle.ls_commands.specs.Sampled.{BadCount, NoCells, ReplaysAsSeed, Sampled, SampledOf, Samples, sample_text}

module _ (i : Image) (cells seed : ℕ) (d : Sampler) where
  abbrev Bad : Type 0
  Bad = AreBadCells (code_of_image i).names cells

  abbrev Many : Type 0
  Many = IsBadCount seed 1 d

  abbrev Refused : BatchFault → Result (List ℕ) BatchFault
  Refused f = Err f

  pub sample_fails : (f : BatchFault) →
      (IsErrOf (Refused f) batch.BadCells ↔ Bad) →
      (IsErrOf (Refused f) batch.BadCount ↔ (¬ Bad × Many))
      → GivesText (Sampled i cells seed d (Unit {0})) (Err (lifted_batch f))
  sample_fails batch.Memory bad many = tt
  sample_fails batch.BadCells bad many = NoCells (bad.0 refl)
  sample_fails batch.BadCount bad many = BadCount (many.0 refl).0 (many.0 refl).1

  pub sample_tells : (taken : List ℕ) (t : Text)
      → (IsErrOf {E = BatchFault} (Ok taken) batch.BadCells ↔ Bad)
      → (IsErrOf {E = BatchFault} (Ok taken) batch.BadCount ↔ (¬ Bad × Many))
      → t ≡ sample_text i cells seed d
      → Sampled i cells seed d (Unit {0}) (Ok t)
  sample_tells taken t bad many said =
      let good : ¬ Bad = not_refused taken batch.BadCells Bad bad in
      let few : ¬ Many = λ h. not_refused taken batch.BadCount (¬ Bad × Many) many (good, h) in
      subst (λ x. Sampled i cells seed d (Unit {0}) (Ok x)) (sym said) (Samples good few tt)

  module _ (classes program : Text) (compiles : Compiles classes program i) (prints : SchedulesReadBack)
      (replay : SeedsReplay) where
    -- the setup is a thread
    some_thread : 0 < length (code_of_image i).starts
    some_thread =
        let count = ap (λ (ts : List ThreadProgram). length ts) compiles.reads.program.parts in
        let same = compiles.runs.same.threads in
        omega arith

    few_steps : ¬ Many → d.steps ≤ 900000
    few_steps few = ⊎_elim (λ lt. absurd (few (inr (inr (inr (inl lt)))))) (λ le. le) (cases_lt 900000 d.steps)

    read_again : d.steps ≤ 900000 →
        schedule_of (names_of_image i) (sample_text i cells seed d) ≡ Ok (seed_schedule (code_of_image i) cells seed d)
    read_again few =
        let r = replay (code_of_image i) cells seed d in
        let count = r.count in
        prints (elaborated_file (checked_of i)) program (program_of_image i)
        (seed_schedule (code_of_image i) cells seed d)
        compiles.reads
        (record {
          there = subst (λ n. All (λ t. t < n) (seed_schedule (code_of_image i) cells seed d))
              (sym (names_count classes program i compiles)) (r.there some_thread);
          short = omega arith;
        })

    replays_as_seed : ¬ Bad → ¬ Many → ReplaysAsSeed i cells seed d
    replays_as_seed good few =
        let again = read_again (few_steps few) in
        let r = replay (code_of_image i) cells seed d in
        record {
          schedule = again;
          replays = subst
              (λ read. Replayed i cells read
              (Ok (run_text (plain_program_of i) (history_of (code_of_image i) cells seed d)))) (sym again)
              (subst (λ events. Replayed i cells (Ok (seed_schedule (code_of_image i) cells seed d))
              (Ok (run_text (plain_program_of i) events)))
              (sym r.history) (Runs (seed_schedule (code_of_image i) cells seed d) good));
        }

    sampled_back : {a : Result Text ToolFault} → Sampled i cells seed d (Unit {0}) a → SampledOf cells seed d i a
    sampled_back (Samples good few more) = Samples good few (replays_as_seed good few)
    sampled_back (NoCells bad) = NoCells bad
    sampled_back (BadCount good many) = BadCount good many

    pub sampled_of : (r : Result (String Global) ToolFault) →
        GivesText (Sampled i cells seed d (Unit {0})) r →
        GivesText (SampledOf cells seed d i) r
    sampled_of r g = wider (Sampled i cells seed d (Unit {0})) (SampledOf cells seed d i) r (λ a h. sampled_back h) g
