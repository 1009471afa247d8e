-- What the commands that run live threads may answer.
use Rattle.ls_events.specs.Limits.{most_steps}
use Rattle.std.proofs.Common.{◌≡◌, ◌↔◌, ◌<◌, ◌≤◌, ◌∙◌, ◌++◌, ℕ, List, length, Result, Ok, Err, refl, sym, subst}
use Rattle.std.proofs.Common.{ap, arith}
use Rattle.std.specs.Prelude.{IsErrOf}
use Rattle.ls_code.specs.Machine.{machine_history}
use Rattle.ls_machine.specs.Room.{AreBadCells}
use Rattle.ls_machine.specs.declared.fault.LoadFault.TheVariants as load
use Rattle.ls_image.specs.Images.{code_of_image}
use Rattle.ls_image.specs.declared.image.Image.{Image}
use Rattle.ls_schedule.specs.Printing.{schedule_text}
use Rattle.ls_schedule.specs.Records.{happened, IsRecordOf, scheduled}
use Rattle.ls_schedule.specs.declared.fault.ScheduleFault.{ScheduleFault}
use Rattle.ls_schedule.specs.declared.replaying.Record.{Record}
use Rattle.ls_live.specs.declared.fault.LiveFault.TheVariants as opening
use Rattle.ls_live.specs.declared.fault.PlayFault.{PlayFault as LiveFault}
use Rattle.ls_live.specs.declared.fault.PlayFault.TheVariants as live
use Rattle.ls_live.specs.declared.follow_fault.FollowFault.{FollowFault}
use Rattle.ls_live.specs.declared.follow_fault.FollowFault.TheVariants as follow
use Rattle.ls_live.specs.declared.follow_fault.TapeFault.{TapeFault as TurnsFault}
use Rattle.ls_live.specs.declared.follow_fault.TapeFault.TheVariants as turns
use Rattle.ls_report.specs.Events.{Text}
use Rattle.ls_report.specs.Printing.{run_text}
use Rattle.ls_faults.specs.Faults.{lifted_live, lifted_turns}
use Rattle.ls_faults.specs.Given.{GivesText}
use Rattle.ls_commands.proofs.Answering.{not_refused, refused_otherwise}
use Rattle.ls_commands.specs.Compiled.{names_of_image, NoCells as TooFewOrMany, plain_program_of, Replayed, Runs}
use Rattle.ls_commands.specs.Lived.{AreLived, AsReplayed, BadLimit, Disagree, Lived, Lives, NoCells, NoMore}
use Rattle.ls_commands.specs.Lived.{NotFollowed, NoThread, ReplayedLive, lived_history, lived_schedule}

module _ (i : Image) (cells : ℕ) where
  abbrev Bad : Type 0
  Bad = AreBadCells (code_of_image i).names cells

  abbrev lines : Record → Text
  lines r = run_text (plain_program_of i) (happened r)

  module _ (limit : ℕ) where
    abbrev Unlived : LiveFault → Result Record LiveFault
    Unlived f = Err f

    abbrev TooLarge : Type 0
    TooLarge = ¬ Bad × (most_steps < limit)

    few : ¬ Bad → ¬ TooLarge → limit ≤ most_steps
    few good not =
        let no : ¬ (most_steps < limit) = λ h. not (good, h) in
        omega (arith, no)

    pub live_fails : (f : LiveFault) →
        (IsErrOf (Unlived f) (live.Open opening.BadCells) ↔ Bad) →
        (IsErrOf (Unlived f) (live.Open opening.BadLimit) ↔ TooLarge) →
        GivesText (Lived i cells limit NoMore) (Err (lifted_live f))
    live_fails (live.Open opening.Memory) bad large = tt
    live_fails (live.Open opening.BadCells) bad large = NoCells (bad.0 refl)
    live_fails (live.Open opening.BadLimit) bad large = BadLimit (large.0 refl).0 (large.0 refl).1
    live_fails live.NoThread bad large =
        let good : ¬ Bad = refused_otherwise {A = Record} live.NoThread (live.Open opening.BadCells) Bad
        (λ e. cc) bad in
        NoThread good (few good (refused_otherwise {A = Record} live.NoThread (live.Open opening.BadLimit) TooLarge
        (λ e. cc) large))
    live_fails live.Disagree bad large =
        let good : ¬ Bad = refused_otherwise {A = Record} live.Disagree (live.Open opening.BadCells) Bad
        (λ e. cc) bad in
        Disagree good (few good (refused_otherwise {A = Record} live.Disagree (live.Open opening.BadLimit) TooLarge
        (λ e. cc) large))

    within : (r : Record) →
        ¬ Bad →
        (IsErrOf {E = LiveFault} (Ok r) (live.Open opening.BadLimit) ↔ TooLarge) →
        limit ≤ most_steps
    within r good large = few good (not_refused r (live.Open opening.BadLimit) TooLarge large)

    pub live_runs : (r : Record) (t : Text) → (IsErrOf {E = LiveFault} (Ok r) (live.Open opening.BadCells) ↔ Bad) →
        (IsErrOf {E = LiveFault} (Ok r) (live.Open opening.BadLimit) ↔ TooLarge) →
        IsRecordOf (code_of_image i) cells (scheduled r) r →
        AreLived (code_of_image i) cells limit (scheduled r) →
        t ≡ schedule_text (names_of_image i) (scheduled r) ++ lines r → Lived i cells limit NoMore (Ok t)
    live_runs r t bad large is lived said =
        let good : ¬ Bad = not_refused r (live.Open opening.BadCells) Bad bad in
        let text : t ≡ lived_schedule i (scheduled r) ++ lived_history i cells (scheduled r) =
        said ∙ ap (λ es. schedule_text (names_of_image i) (scheduled r) ++ run_text (plain_program_of i) es) is.history
        in
        subst (λ x. Lived i cells limit NoMore (Ok x)) (sym text)
        (Lives (scheduled r) good (within r good large) lived tt)

  module _ (read : Result (List ℕ) ScheduleFault) (steps : List ℕ) (reads : read ≡ Ok steps) where
    abbrev Unfollowed : TurnsFault → Result Record TurnsFault
    Unfollowed f = Err f

    good_cells : (f : FollowFault) →
        (IsErrOf (Unfollowed (turns.Follow f)) (turns.Load load.BadCells) ↔ Bad) →
        ¬ Bad
    good_cells f bad = refused_otherwise {A = Record} (turns.Follow f) (turns.Load load.BadCells) Bad (λ e. cc) bad

    pub turns_fail : (f : TurnsFault) → (IsErrOf (Unfollowed f) (turns.Load load.BadCells) ↔ Bad) →
        ((place : ℕ) → IsErrOf (Unfollowed f) (turns.Follow (follow.TurnsSpent place)) → place < length steps) →
        GivesText (ReplayedLive i cells read) (Err (lifted_turns f))
    turns_fail (turns.Load load.Memory) bad spent = tt
    turns_fail (turns.Load load.BadCells) bad spent = AsReplayed _ (rw reads (TooFewOrMany steps (bad.0 refl)))
    turns_fail (turns.Follow follow.Memory) bad spent = tt
    turns_fail (turns.Follow follow.NoThread) bad spent = NotFollowed steps follow.NoThread reads
        (good_cells follow.NoThread bad) tt
    turns_fail (turns.Follow (follow.TurnsSpent place)) bad spent = NotFollowed steps (follow.TurnsSpent place) reads
        (good_cells (follow.TurnsSpent place) bad) (spent place refl)

    pub turns_run : (r : Record) (t : Text) →
        (IsErrOf {E = TurnsFault} (Ok r) (turns.Load load.BadCells) ↔ Bad) →
        IsRecordOf (code_of_image i) cells steps r →
        t ≡ lines r →
        ReplayedLive i cells read (Ok t)
    turns_run r t bad is said =
        let text : t ≡ run_text (plain_program_of i) (machine_history (code_of_image i) cells steps) = said ∙
        ap (run_text (plain_program_of i)) is.history in
        AsReplayed (Ok t)
        (rw reads (subst (λ x. Replayed i cells (Ok steps) (Ok x)) (sym text)
        (Runs steps (not_refused r (turns.Load load.BadCells) Bad bad))))
