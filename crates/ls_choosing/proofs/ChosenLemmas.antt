-- What a page of choices may answer.
use Rattle.std.proofs.Common.{◌≡◌, ◌<◌, ◌∙◌, ap, arith, false, inl, refl, sym, true, zero, suc, Bool, ℕ, List}
use Rattle.std.proofs.Common.{Result, Ok, Err}
use Rattle.std.specs.Prelude.{Option, String}
use Rattle.std.specs.Global.{Global}
use Rattle.ls_checked.specs.PlainProgram.{plain_program}
use Rattle.ls_checked.specs.declared.program.Program as code
use Rattle.ls_schedule.specs.Answers.{Fails}
use Rattle.ls_schedule.specs.Reading.{schedule_of, thread_names}
use Rattle.ls_schedule.specs.declared.fault.ScheduleFault.{ScheduleFault}
use Rattle.ls_schedule.specs.declared.fault.ScheduleFault.TheVariants as schedule
use Rattle.ls_page.specs.ChoicesData.{Reference}
use Rattle.ls_report.specs.Events.{Text}
use Rattle.ls_labels.specs.Names.{Names}
use Rattle.ls_faults.specs.Faults.{lifted_schedule}
use Rattle.ls_faults.specs.Given.{GivesText}
use Rattle.ls_faults.proofs.Answering.{Failed, wider}
use Rattle.ls_faults.specs.declared.fault.ToolFault.{ToolFault}
use Rattle.ls_commands.proofs.ViewedLemmas.{names_are}
use Rattle.ls_commands.specs.Viewed.{thread_names_of}
use Rattle.ls_choosing.specs.Chosen.{AreBadStates, Followed, FollowsTo, NoSchedule, ShowsTo, Wanted}

pub not_both : {b : Bool} → b ≡ true → b ≡ false → ⊥
not_both e f = cc

-- a number of states that may be kept isn't 0
pub above_none : (states : ℕ) → ¬ AreBadStates states → 0 < states
above_none zero good = absurd (good (inl refl))
above_none (suc n) good = omega arith

module _ (w : Wanted) (reference : Option Reference) (names : Names) (p : code.Program)
    (is : names.program ≡ plain_program p) where
  read : (r : Result (List ℕ) ScheduleFault)
      → schedule_of (thread_names p) w.texts.schedule ≡ r
      → schedule_of (thread_names_of names.program) w.texts.schedule ≡ r
  read r e =
      ap (λ q. schedule_of (thread_names_of q) w.texts.schedule) is
      ∙ ap (λ (ns : List Text). schedule_of ns w.texts.schedule) (sym (names_are p.threads.items))
      ∙ e

  -- a schedule that breaks
  pub schedule_fails : (f : ScheduleFault)
      → Fails f (schedule_of (thread_names p) w.texts.schedule)
      → GivesText (FollowsTo w reference names) (Failed (lifted_schedule f))
  schedule_fails schedule.Memory e = tt
  schedule_fails (schedule.BadItem at) e = NoSchedule (schedule.BadItem at) (read (Err (schedule.BadItem at)) e)
  schedule_fails (schedule.UnknownThread at) e = NoSchedule (schedule.UnknownThread at)
      (read (Err (schedule.UnknownThread at)) e)
  schedule_fails schedule.TooManySteps e = NoSchedule schedule.TooManySteps (read (Err schedule.TooManySteps) e)

  -- one that is read
  pub schedule_follows : (steps : List ℕ) (r : Result (String Global) ToolFault)
      → schedule_of (thread_names p) w.texts.schedule ≡ Ok steps
      → GivesText (ShowsTo w reference names) r
      → GivesText (FollowsTo w reference names) r
  schedule_follows steps r e g =
      wider (ShowsTo w reference names) (FollowsTo w reference names) r
      (λ a h. Followed steps a (read (Ok steps) e) h) g
