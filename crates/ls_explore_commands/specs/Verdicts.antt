-- What `explore --verdict` says.
use Rattle.std.specs.Prelude.{◌≡◌, ◌⊎◌, ◌≤◌, ◌<◌, ℕ, Bool, true, false, List, Result, Ok, Err, length}
use Rattle.ls_events.specs.Limits.{most_steps}
use Rattle.ls_checked.specs.CheckedTree.{File}
use Rattle.ls_checked.specs.CheckedProgram.{Program}
use Rattle.ls_hopeless.specs.Hopeless.{IsHopelessLine}
use Rattle.ls_image.specs.declared.image.Image.{Image}
use Rattle.ls_meaning.specs.Runs.{source_history}
use Rattle.ls_translation.specs.Texts.{file_of, program_of}
use Rattle.ls_translation.specs.declared.fault.TranslationFault.{TranslationFault}
use Rattle.ls_translation.specs.declared.fault.TranslationFault.TheVariants as translation
use Rattle.ls_explore.specs.Faults.{AreBadStates}
use Rattle.ls_explore.specs.declared.fault.ExploreFault.TheVariants as explore
use Rattle.ls_report.specs.Events.{Text}
use Rattle.ls_faults.specs.declared.fault.ToolFault.{ToolFault}
use Rattle.ls_faults.specs.declared.fault.ToolFault.TheVariants as faults
use Rattle.ls_commands.specs.Compiled.{AnswersOn, names_of_image}
use Rattle.ls_fewest_switches.specs.Switches.{HasFewest, HasFewestStuck}
use Rattle.ls_search_laws.specs.Stepping.{ActAll, SetsUp}
use Rattle.ls_serial_search.specs.declared.telling.Doubt.{Doubt}
use Rattle.ls_source_judge.specs.Judged.{AllLike, IsSimplestUnlike, IsStuckRun, IsUnjudgedRun, IsUnlikeRun}
use Rattle.ls_spinning.specs.Turning.{NeverTurns, TurnsForEver}
use Rattle.ls_search.specs.Verdicts.{AreAll, AreReached, IsCut, NeverStuck}
use Rattle.ls_explore_reports.specs.ImageNames.{names_in}
use Rattle.ls_explore_commands.specs.Beside.{IsBeside}
use Rattle.ls_explore_commands.specs.Readable.{IsReadBack}
use Rattle.ls_explore_commands.specs.Reports.{bad_text, doubtful_text, free_text, stuck_and_doubtful_text, stuck_text}
use Rattle.ls_explore_commands.specs.Reports.{turning_text, unsure_text}

-- At most so many states were kept. If these aren't all, so many were, or they have over 4,194,304 objects together.
-- After steps of the setup, each of which acts, there are as many schedules: each goes on from an earlier one by steps
-- of a thread that acts there, and no two from the same one by the same thread. If these are all, there are as many
-- states that threads don't leave, but for steps that no other thread notices and for names of objects.
pub record IsExtent (file : File) (program : Program) (limit states : ℕ) (complete : Bool) : Type 0 where
  pub within : states ≤ limit
  pub setup : ℕ
  pub cut : complete ≡ false → IsCut file program limit setup states
  pub up : SetsUp file program setup
  pub reached : AreReached file program setup states
  pub all : complete ≡ true → AreAll file program setup states

-- What is told of a schedule: its history isn't linearizable to a specification, or it isn't known whether it is, or
-- after it no thread acts, and one waits for a lock.
pub data IsTold (sfile : File) (sprogram : Program) (i : Image) (schedule : List ℕ) : Type 0 where
  Bad : IsUnlikeRun sfile sprogram (file_of i) (program_of i) schedule → IsTold sfile sprogram i schedule
  Unjudged : (doubt : Doubt) → IsUnjudgedRun sfile sprogram (file_of i) (program_of i) doubt schedule →
      IsTold sfile sprogram i schedule
  Stuck : IsStuckRun (file_of i) (program_of i) schedule → IsTold sfile sprogram i schedule

-- memory ran out, or these are more steps than a schedule may have
abbrev pub IsRefusalOf : List ℕ → TranslationFault → Type 0
IsRefusalOf steps f = (f ≡ translation.Memory) ⊎ ((f ≡ translation.ResultTooLong) × (most_steps < length steps))

-- The text of a verdict by a specification, or why there is none. If all states were kept, it is said of each schedule,
-- of any length. If the context switches of a run are printed, no schedule that is wrong so has fewer, of any length.
-- Of a history of which it isn't known whether it is linearizable, no schedule with this history has fewer. Each step
-- of a schedule that is printed acts, and the schedule is read as it is printed. Beside `none` it is said of data races
-- what is so by the class text.
pub data Decided (classes : Text) (sfile : File) (sprogram : Program) (i : Image) (limit : ℕ)
    : Result Text ToolFault → Type 0 where
  NoStates : AreBadStates limit → Decided classes sfile sprogram i limit (Err (faults.Explore explore.BadStates))
  -- the history of this schedule isn't linearizable
  IsBad : (schedule : List ℕ) (note : Text) (fewest : Bool) (states : ℕ) (complete : Bool) →
      ¬ AreBadStates limit →
      IsExtent (file_of i) (program_of i) limit states complete →
      IsUnlikeRun sfile sprogram (file_of i) (program_of i) schedule →
      IsReadBack i schedule →
      (fewest ≡ true → IsSimplestUnlike sfile sprogram (file_of i) (program_of i) schedule) →
      IsHopelessLine sfile sprogram (program_of i) (source_history (file_of i) (program_of i) schedule) note →
      Decided classes sfile sprogram i limit
      (Ok (bad_text note fewest (names_in i) (names_of_image i) schedule limit states complete))
  -- no serial history that was found explains it, and some may not have been found, for this reason
  IsDoubtful : (doubt : Doubt) (schedule : List ℕ) (fewest : Bool) (states : ℕ) (complete : Bool) →
      ¬ AreBadStates limit →
      IsExtent (file_of i) (program_of i) limit states complete →
      IsUnjudgedRun sfile sprogram (file_of i) (program_of i) doubt schedule →
      IsReadBack i schedule →
      (complete ≡ true → NeverStuck (file_of i) (program_of i)) →
      (fewest ≡ true → HasFewest false (file_of i) (program_of i) schedule) →
      Decided classes sfile sprogram i limit
      (Ok (doubtful_text doubt fewest (names_in i) (names_of_image i) schedule limit states complete))
  -- the same of this schedule, and after the first no thread acts, and one waits for a lock
  IsStuckAndDoubtful : (stuck : List ℕ) (stuck_fewest : Bool) (doubt : Doubt) (schedule : List ℕ) (fewest : Bool)
      (states : ℕ) (complete : Bool) →
      ¬ AreBadStates limit →
      IsExtent (file_of i) (program_of i) limit states complete →
      IsStuckRun (file_of i) (program_of i) stuck →
      IsReadBack i stuck →
      IsUnjudgedRun sfile sprogram (file_of i) (program_of i) doubt schedule →
      IsReadBack i schedule →
      (stuck_fewest ≡ true → HasFewestStuck (file_of i) (program_of i) stuck) →
      (fewest ≡ true → HasFewest false (file_of i) (program_of i) schedule) →
      Decided classes sfile sprogram i limit
      (Ok (stuck_and_doubtful_text stuck stuck_fewest doubt fewest (names_in i) (names_of_image i) schedule limit
      states complete))
  -- after this schedule no thread acts, and one waits for a lock
  IsStuck : (schedule : List ℕ) (fewest : Bool) (states : ℕ) (complete : Bool) →
      ¬ AreBadStates limit →
      IsExtent (file_of i) (program_of i) limit states complete →
      IsStuckRun (file_of i) (program_of i) schedule →
      IsReadBack i schedule →
      (fewest ≡ true → HasFewestStuck (file_of i) (program_of i) schedule) →
      (complete ≡ true → AllLike sfile sprogram (file_of i) (program_of i)) →
      Decided classes sfile sprogram i limit
      (Ok (stuck_text fewest (names_in i) (names_of_image i) schedule limit states complete))
  -- after this schedule some thread always acts, and no event comes any more
  IsTurning : (schedule : List ℕ) (states : ℕ) (complete : Bool) →
      ¬ AreBadStates limit →
      IsExtent (file_of i) (program_of i) limit states complete →
      ActAll (file_of i) (program_of i) schedule →
      TurnsForEver (file_of i) (program_of i) schedule →
      IsReadBack i schedule →
      (complete ≡ true → AllLike sfile sprogram (file_of i) (program_of i)) →
      (complete ≡ true → NeverStuck (file_of i) (program_of i)) →
      Decided classes sfile sprogram i limit
      (Ok (turning_text false (names_in i) (names_of_image i) schedule limit states complete))
  -- it isn't known whether threads can turn for ever
  IsUnsure : (states : ℕ) (complete : Bool) →
      ¬ AreBadStates limit →
      IsExtent (file_of i) (program_of i) limit states complete →
      (complete ≡ true → AllLike sfile sprogram (file_of i) (program_of i)) →
      (complete ≡ true → NeverStuck (file_of i) (program_of i)) →
      Decided classes sfile sprogram i limit (Ok (unsure_text limit states complete))
  IsFree : (states : ℕ) (complete : Bool) (beside : Text) →
      ¬ AreBadStates limit →
      IsExtent (file_of i) (program_of i) limit states complete →
      (complete ≡ true → AllLike sfile sprogram (file_of i) (program_of i)) →
      (complete ≡ true → NeverStuck (file_of i) (program_of i)) →
      (complete ≡ true → NeverTurns (file_of i) (program_of i)) →
      IsBeside classes i limit complete beside →
      Decided classes sfile sprogram i limit (Ok (free_text beside limit states complete))
  -- the schedule that was found has more steps than a schedule may have
  TooLong : (schedule : List ℕ) →
      ¬ AreBadStates limit →
      IsTold sfile sprogram i schedule →
      most_steps < length schedule →
      Decided classes sfile sprogram i limit (Err (faults.Translation translation.ResultTooLong))

abbrev pub VerdictsTo : ℕ → Text → Text → Result Text ToolFault → Type 0
VerdictsTo limit classes program answer =
    AnswersOn classes program (λ i. Decided classes (file_of i) (program_of i) i limit) answer
