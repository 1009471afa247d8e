-- What is printed of runs reads back.
use Rattle.ls_events.specs.Limits.{most_steps}
use Rattle.std.proofs.Common.{◌≡◌, ◌<◌, ◌≤◌, ◌∙◌, ℕ, List, length, Result, Ok, sym, subst, inl, inr, arith}
use Rattle.std.specs.Prelude.{All, String}
use Rattle.std.proofs.lemmas.List.{length-map}
use Rattle.std.specs.Global.{Global}
use Rattle.ls_checked.specs.PlainProgram.{plain_thread}
use Rattle.ls_code.specs.Limits.{most_cells}
use Rattle.ls_code.specs.Code.{Code}
use Rattle.ls_code.specs.Machine.{machine_history}
use Rattle.ls_preservation.specs.Same.{IsCells}
use Rattle.ls_machine.specs.Room.{AreBadCells}
use Rattle.ls_types_checked.specs.CheckedFile.{elaborated_file}
use Rattle.ls_image.specs.Images.{checked_of, code_of_image, Compiles, program_of_image}
use Rattle.ls_image.specs.declared.image.Image.{Image}
use Rattle.ls_schedule.specs.Reading.{schedule_of, thread_name}
use Rattle.ls_schedule.specs.declared.fault.ScheduleFault.{ScheduleFault}
use Rattle.ls_report.specs.Events.{Text}
use Rattle.ls_report.specs.Printing.{run_text}
use Rattle.ls_text_laws.specs.Histories.{CompiledIsReadable}
use Rattle.ls_text_laws.specs.Schedules.{SchedulesReadBack}
use Rattle.ls_faults.proofs.Answering.{wider}
use Rattle.ls_commands.specs.Compiled.{names_of_image, NoCells, NoSchedule, plain_program_of, Replayed, ReplayedOf}
use Rattle.ls_commands.specs.Compiled.{Runs}
use Rattle.ls_commands.specs.Lived.{AreLived, AsReplayed, BadLimit, Disagree, Lived, LivedOf, Lives}
use Rattle.ls_commands.specs.Lived.{NoCells as TooFewOrMany, NoMore, NotFollowed, NoThread, ReadsBackAs, ReplayedLive}
use Rattle.ls_commands.specs.Lived.{ReplayedLiveOf, lived_history, lived_schedule}
use Rattle.ls_faults.specs.ReadBack.{IsHistoryText, ReadsBack}
use Rattle.ls_faults.specs.Given.{GivesText}
use Rattle.ls_faults.specs.declared.fault.ToolFault.{ToolFault}

pub are_cells : (code : Code) (cells : ℕ) → ¬ AreBadCells code.names cells → IsCells code cells
are_cells code cells good = record {
  some = let h : cells ≡ 0 → ⊥ = λ e. good (inl e) in omega arith;
  most = let h : most_cells < cells → ⊥ = λ e. good (inr (inl e)) in omega arith;
  names = let h : cells < code.names → ⊥ = λ e. good (inr (inr e)) in omega arith;
}

-- as many names as threads that run
pub names_count : (classes program : Text) (i : Image) →
    Compiles classes program i →
    length (names_of_image i) ≡ length (code_of_image i).starts
names_count classes program i compiles =
    length-map (program_of_image i).threads.items thread_name
    ∙ sym (length-map (program_of_image i).threads.items plain_thread)
    ∙ sym compiles.runs.same.threads

module _ (readable : CompiledIsReadable) (classes program : Text) (i : Image) (compiles : Compiles classes program i)
    (cells : ℕ) where
  printed : (steps : List ℕ) →
      ¬ AreBadCells (code_of_image i).names cells →
      IsHistoryText (run_text (plain_program_of i) (machine_history (code_of_image i) cells steps))
  printed steps good =
      let r = readable classes program i compiles cells (are_cells (code_of_image i) cells good) steps in
      (r.events, r.says)

  replayed_back : {read : Result (List ℕ) ScheduleFault} {a : Result Text ToolFault} →
      Replayed i cells read a →
      ReadsBack a
  replayed_back (Runs steps good) = printed steps good
  replayed_back (NoCells steps bad) = tt
  replayed_back (NoSchedule f) = tt

  replayed_live_back : {read : Result (List ℕ) ScheduleFault} {a : Result Text ToolFault} →
      ReplayedLive i cells read a →
      ReadsBack a
  replayed_live_back (AsReplayed answer h) = replayed_back h
  replayed_live_back (NotFollowed steps f e good h) = tt

  pub replayed_of : (s : Text) (r : Result (String Global) ToolFault) →
      GivesText (Replayed i cells (schedule_of (names_of_image i) s)) r →
      GivesText (ReplayedOf cells s i) r
  replayed_of s r g = wider (Replayed i cells (schedule_of (names_of_image i) s)) (ReplayedOf cells s i) r
      (λ a h. (h, replayed_back h)) g

  pub replayed_live_of : (s : Text) (r : Result (String Global) ToolFault) →
      GivesText (ReplayedLive i cells (schedule_of (names_of_image i) s)) r →
      GivesText (ReplayedLiveOf cells s i) r
  replayed_live_of s r g = wider (ReplayedLive i cells (schedule_of (names_of_image i) s)) (ReplayedLiveOf cells s i) r
      (λ a h. (h, replayed_live_back h)) g

  module _ (prints : SchedulesReadBack) (limit : ℕ) where
    read_again : (steps : List ℕ) →
        limit ≤ most_steps →
        AreLived (code_of_image i) cells limit steps →
        schedule_of (names_of_image i) (lived_schedule i steps) ≡ Ok steps
    read_again steps most lived =
        let few = lived.few in
        prints (elaborated_file (checked_of i)) program (program_of_image i) steps compiles.reads
        (record {
          there = subst (λ n. All (λ t. t < n) steps) (sym (names_count classes program i compiles))
              lived.there;
          short = omega arith;
        })

    reads_back_as : (steps : List ℕ) →
        ¬ AreBadCells (code_of_image i).names cells →
        limit ≤ most_steps →
        AreLived (code_of_image i) cells limit steps →
        ReadsBackAs i cells steps
    reads_back_as steps good most lived =
        let again = read_again steps most lived in
        record {
          schedule = again;
          replays = subst (λ r. Replayed i cells r (Ok (lived_history i cells steps))) (sym again) (Runs steps good);
          history = printed steps good;
        }

    lived_back : {a : Result Text ToolFault} → Lived i cells limit NoMore a → LivedOf cells limit i a
    lived_back (Lives steps good most lived more) = Lives steps good most lived (reads_back_as steps good most lived)
    lived_back (TooFewOrMany bad) = TooFewOrMany bad
    lived_back (BadLimit good large) = BadLimit good large
    lived_back (NoThread good few) = NoThread good few
    lived_back (Disagree good few) = Disagree good few

    pub lived_of : (r : Result (String Global) ToolFault) →
        GivesText (Lived i cells limit NoMore) r →
        GivesText (LivedOf cells limit i) r
    lived_of r g = wider (Lived i cells limit NoMore) (LivedOf cells limit i) r (λ a h. lived_back h) g
