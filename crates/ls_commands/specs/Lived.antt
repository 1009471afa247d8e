-- What the commands that run live threads say: `live`, and `replay --live`.
use Rattle.ls_events.specs.Limits.{most_steps}
use Rattle.std.specs.Prelude.{◌≡◌, ℕ, ◌<◌, ◌≤◌, ◌⊎◌, List, ◌++◌, length, true, Result, Ok, Err, All}
use Rattle.ls_code.specs.Code.{Code}
use Rattle.ls_code.specs.Machine.{loaded, machine_history, machine_run}
use Rattle.ls_machine.specs.Room.{AreBadCells}
use Rattle.ls_image.specs.Images.{code_of_image}
use Rattle.ls_image.specs.declared.image.Image.{Image}
use Rattle.ls_schedule.specs.Printing.{schedule_text}
use Rattle.ls_schedule.specs.Reading.{schedule_of}
use Rattle.ls_schedule.specs.declared.fault.ScheduleFault.{ScheduleFault}
use Rattle.ls_live.specs.Answers.{is_over}
use Rattle.ls_live.specs.Due.{AreDue}
use Rattle.ls_live.specs.declared.fault.LiveFault.TheVariants as opening
use Rattle.ls_live.specs.declared.fault.PlayFault.TheVariants as live
use Rattle.ls_live.specs.declared.follow_fault.FollowFault.{FollowFault}
use Rattle.ls_live.specs.declared.follow_fault.FollowFault.TheVariants as follow
use Rattle.ls_live.specs.declared.follow_fault.TapeFault.TheVariants as turns
use Rattle.ls_report.specs.Events.{Text}
use Rattle.ls_report.specs.Printing.{run_text}
use Rattle.ls_faults.specs.declared.fault.ToolFault.{ToolFault}
use Rattle.ls_faults.specs.declared.fault.ToolFault.TheVariants as faults
use Rattle.ls_commands.specs.Compiled.{AnswersOn, names_of_image, plain_program_of, Replayed}
use Rattle.ls_faults.specs.ReadBack.{IsHistoryText, ReadsBack}

-- each thread is over after the steps, or they are as many as may be recorded
abbrev pub AreDone : Code → ℕ → ℕ → List ℕ → Type 0
AreDone code cells limit steps =
    ((t : ℕ) → t < length code.starts → is_over (machine_run (loaded code cells) steps) t ≡ true) ⊎
    (length steps ≡ limit)

-- the steps of a live run: at most so many, each of a thread that is there and due then, so that none is idle, up to
-- the ends of all threads or to the limit
pub record AreLived (code : Code) (cells limit : ℕ) (steps : List ℕ) : Type 0 where
  pub few : length steps ≤ limit
  pub there : All (λ t. t < length code.starts) steps
  pub due : AreDue (loaded code cells) steps
  pub done : AreDone code cells limit steps

abbrev pub lived_schedule : Image → List ℕ → Text
lived_schedule i steps = schedule_text (names_of_image i) steps

abbrev pub lived_history : Image → ℕ → List ℕ → Text
lived_history i cells steps = run_text (plain_program_of i) (machine_history (code_of_image i) cells steps)

-- The schedule of a live run, and the history of the machine's run of it, of which more is said. Or the cells are too
-- few or too many, or else the limit is too large. Only where neither is so may it be that a thread couldn't be
-- started, or that a seat disagrees with the record.
pub data Lived (i : Image) (cells limit : ℕ) (More : List ℕ → Type 0) : Result Text ToolFault → Type 0 where
  Lives : (steps : List ℕ) →
      ¬ AreBadCells (code_of_image i).names cells →
      limit ≤ most_steps →
      AreLived (code_of_image i) cells limit steps →
      More steps →
      Lived i cells limit More (Ok (lived_schedule i steps ++ lived_history i cells steps))
  NoCells : AreBadCells (code_of_image i).names cells → Lived i cells limit More (Err faults.BadCells)
  BadLimit : ¬ AreBadCells (code_of_image i).names cells →
      most_steps < limit →
      Lived i cells limit More (Err (faults.Live (live.Open opening.BadLimit)))
  NoThread : ¬ AreBadCells (code_of_image i).names cells →
      limit ≤ most_steps →
      Lived i cells limit More (Err (faults.Live live.NoThread))
  Disagree : ¬ AreBadCells (code_of_image i).names cells →
      limit ≤ most_steps →
      Lived i cells limit More (Err (faults.Live live.Disagree))

-- no more is said
abbrev pub NoMore : List ℕ → Type 0
NoMore steps = Unit {0}

-- what is printed of the steps reads back: the schedule as these steps, so that `replay` of it prints the history, and
-- the history too
pub record ReadsBackAs (i : Image) (cells : ℕ) (steps : List ℕ) : Type 0 where
  pub schedule : schedule_of (names_of_image i) (lived_schedule i steps) ≡ Ok steps
  pub replays : Replayed i cells (schedule_of (names_of_image i) (lived_schedule i steps))
      (Ok (lived_history i cells steps))
  pub history : IsHistoryText (lived_history i cells steps)

abbrev pub LivedOf : ℕ → ℕ → Image → Result Text ToolFault → Type 0
LivedOf cells limit i answer = Lived i cells limit (ReadsBackAs i cells) answer

abbrev pub LivesTo : ℕ → ℕ → Text → Text → Result Text ToolFault → Type 0
LivesTo cells limit classes program answer = AnswersOn classes program (LivedOf cells limit) answer

-- why live threads don't come to the end of a schedule of so many steps
abbrev pub BreaksOff : ℕ → FollowFault → Type 0
BreaksOff steps follow.Memory = ⊥
BreaksOff steps follow.NoThread = Unit {0}
BreaksOff steps (follow.TurnsSpent place) = place < steps

-- what a replay says, or live threads don't come to the end of the schedule, which is read, on good cells
pub data ReplayedLive (i : Image) (cells : ℕ) (read : Result (List ℕ) ScheduleFault) : Result Text ToolFault →
    Type 0 where
  AsReplayed : (answer : Result Text ToolFault) → Replayed i cells read answer → ReplayedLive i cells read answer
  NotFollowed : (steps : List ℕ) (f : FollowFault) →
      read ≡ Ok steps →
      ¬ AreBadCells (code_of_image i).names cells →
      BreaksOff (length steps) f →
      ReplayedLive i cells read (Err (faults.Turns (turns.Follow f)))

-- and a history that is printed reads back
abbrev pub ReplayedLiveOf : ℕ → Text → Image → Result Text ToolFault → Type 0
ReplayedLiveOf cells schedule i answer = ReplayedLive i cells (schedule_of (names_of_image i) schedule) answer ×
    ReadsBack answer

abbrev pub ReplaysLiveTo : ℕ → Text → Text → Text → Result Text ToolFault → Type 0
ReplaysLiveTo cells classes program schedule answer = AnswersOn classes program (ReplayedLiveOf cells schedule) answer
