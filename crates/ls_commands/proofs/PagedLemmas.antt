-- What `page` may answer.
use Rattle.std.proofs.Common.{◌≡◌, ◌∙◌, ap, refl, sym, subst, ℕ, List, take, Option, Some, None, Result, Ok, Err}
use Rattle.std.specs.Prelude.{String}
use Rattle.std.specs.Global.{Global}
use Rattle.ls_checked.specs.PlainProgram.{plain_program}
use Rattle.ls_checked.specs.declared.program.Program as code
use Rattle.ls_schedule.specs.Answers.{Fails}
use Rattle.ls_schedule.specs.Reading.{schedule_of, thread_names}
use Rattle.ls_schedule.specs.declared.fault.ScheduleFault.{ScheduleFault}
use Rattle.ls_schedule.specs.declared.fault.ScheduleFault.TheVariants as schedule
use Rattle.ls_report.specs.Events.{Text}
use Rattle.ls_labels.specs.Names.{Names}
use Rattle.ls_page.specs.Data.{history_text, ordered_page_text, page_text}
use Rattle.ls_faults.specs.Faults.{lifted_schedule}
use Rattle.ls_faults.specs.Given.{GivesText}
use Rattle.ls_faults.proofs.Answering.{Failed, wider}
use Rattle.ls_faults.specs.declared.fault.ToolFault.{ToolFault}
use Rattle.ls_faults.specs.declared.fault.ToolFault.TheVariants as fault
use Rattle.ls_commands.proofs.ViewedLemmas.{names_are}
use Rattle.ls_commands.specs.Viewed.{thread_names_of}
use Rattle.ls_commands.specs.Paged.{JudgesTo, NoSchedule, Ordered, Plain, Played, PlaysTo, TellsTo, Wanted}
use Rattle.ls_commands.specs.Paged.{with_verdict}

-- a fault is passed on as it is
through : (May : Result Text ToolFault → Type 0) (g : Result Text ToolFault → Result Text ToolFault)
    → ((f : ToolFault) → g (Err f) ≡ Err f)
    → (f : ToolFault)
    → GivesText (λ a. May (g a)) (Failed f)
    → GivesText May (Failed f)
through May g same fault.Memory h = tt
through May g same (fault.Text f) h = subst May (same (fault.Text f)) h
through May g same (fault.Check f) h = subst May (same (fault.Check f)) h
through May g same (fault.Program f) h = subst May (same (fault.Program f)) h
through May g same (fault.Build f) h = subst May (same (fault.Build f)) h
through May g same (fault.Schedule f) h = subst May (same (fault.Schedule f)) h
through May g same (fault.Translation f) h = subst May (same (fault.Translation f)) h
through May g same (fault.Live f) h = subst May (same (fault.Live f)) h
through May g same (fault.Turns f) h = subst May (same (fault.Turns f)) h
through May g same (fault.Batch f) h = subst May (same (fault.Batch f)) h
through May g same (fault.Explore f) h = subst May (same (fault.Explore f)) h
through May g same (fault.Class f) h = subst May (same (fault.Class f)) h
through May g same fault.BadNumbers h = subst May (same fault.BadNumbers) h
through May g same fault.BadOptions h = subst May (same fault.BadOptions) h
through May g same (fault.BadEntry at) h = subst May (same (fault.BadEntry at)) h
through May g same (fault.Specification f) h = subst May (same (fault.Specification f)) h
through May g same (fault.UnlikeSpecification at) h = subst May (same (fault.UnlikeSpecification at)) h
through May g same (fault.LacksMethod span) h = subst May (same (fault.LacksMethod span)) h
through May g same (fault.Aim f) h = subst May (same (fault.Aim f)) h
through May g same (fault.History f) h = subst May (same (fault.History f)) h
through May g same (fault.Order f) h = subst May (same (fault.Order f)) h
through May g same (fault.Tally f) h = subst May (same (fault.Tally f)) h
through May g same fault.BadCells h = subst May (same fault.BadCells) h
through May g same fault.WrongParts h = subst May (same fault.WrongParts) h
through May g same fault.TooManyTrapped h = subst May (same fault.TooManyTrapped) h
through May g same fault.NotText h = subst May (same fault.NotText) h
through May g same fault.ReadFailed h = subst May (same fault.ReadFailed) h
through May g same fault.WriteFailed h = subst May (same fault.WriteFailed) h

module _ (w : Wanted) (names : Names) (steps : List ℕ) where
  -- a page without an order
  pub plain_told : (order : Option Text) (text : Text)
      → order ≡ None
      → text ≡ page_text names w.texts steps w.from w.to
      → TellsTo w names steps order (Ok text)
  plain_told order text is same = rw (is, same) Plain

  module _ (order history : Text) (printed : history ≡ history_text names (take w.to steps)) where
    ordered : (verdict : Result Text ToolFault) → JudgesTo history order verdict
        → TellsTo w names steps (Some order) (with_verdict w names steps order verdict)
    ordered verdict h = Ordered order verdict (subst (λ past. JudgesTo past order verdict) printed h)

    -- a fault of the order
    pub verdict_fails : (f : ToolFault)
        → GivesText (JudgesTo history order) (Failed f)
        → GivesText (TellsTo w names steps (Some order)) (Failed f)
    verdict_fails f g =
        through (TellsTo w names steps (Some order)) (with_verdict w names steps order) (λ f. refl) f
        (wider (JudgesTo history order) (λ a. TellsTo w names steps (Some order) (with_verdict w names steps order a))
        (Failed f) ordered g)

    -- a page with a verdict
    pub ordered_told : (verdict text : Text)
        → JudgesTo history order (Ok verdict)
        → text ≡ ordered_page_text names w.texts steps w.from w.to (record { order = order; verdict = verdict })
        → TellsTo w names steps (Some order) (Ok text)
    ordered_told verdict text h same = subst (λ t. TellsTo w names steps (Some order) (Ok t)) (sym same)
        (ordered (Ok verdict) h)

module _ (w : Wanted) (names : Names) (p : code.Program) (is : names.program ≡ plain_program p) where
  read : (r : Result (List ℕ) ScheduleFault)
      → schedule_of (thread_names p) w.texts.schedule ≡ r
      → schedule_of (thread_names_of names.program) w.texts.schedule ≡ r
  read r e =
      ap (λ q. schedule_of (thread_names_of q) w.texts.schedule) is
      ∙ ap (λ (ns : List Text). schedule_of ns w.texts.schedule) (sym (names_are p.threads.items))
      ∙ e

  -- a schedule that breaks
  pub schedule_fails : (f : ScheduleFault)
      → Fails f (schedule_of (thread_names p) w.texts.schedule)
      → GivesText (PlaysTo w names) (Failed (lifted_schedule f))
  schedule_fails schedule.Memory e = tt
  schedule_fails (schedule.BadItem at) e = NoSchedule (schedule.BadItem at) (read (Err (schedule.BadItem at)) e)
  schedule_fails (schedule.UnknownThread at) e = NoSchedule (schedule.UnknownThread at)
      (read (Err (schedule.UnknownThread at)) e)
  schedule_fails schedule.TooManySteps e = NoSchedule schedule.TooManySteps (read (Err schedule.TooManySteps) e)

  -- one that is read
  pub schedule_plays : (steps given : List ℕ) (r : Result (String Global) ToolFault)
      → schedule_of (thread_names p) w.texts.schedule ≡ Ok steps
      → given ≡ steps
      → GivesText (TellsTo w names given w.order) r
      → GivesText (PlaysTo w names) r
  schedule_plays steps given r e same g =
      wider (TellsTo w names given w.order) (PlaysTo w names) r
      (λ a h. Played steps a (read (Ok steps) e) (subst (λ s. TellsTo w names s w.order a) same h)) g
