-- Items that are taken, and what is answered of one that isn't.
use Rattle.std.proofs.Common.{◌≡◌, ◌∙◌, ℕ, List, [], ◌∷◌, ◌++◌, map, refl, sym, ap, subst, Option, Some, None, Result}
use Rattle.std.proofs.Common.{Ok, Err}
use Rattle.ls_checked.specs.PlainProgram.{plain_thread}
use Rattle.ls_checked.specs.declared.program.ThreadProgram.{ThreadProgram}
use Rattle.ls_items.specs.Items.{Item}
use Rattle.ls_labels.specs.Names.{Names}
use Rattle.ls_report.specs.Events.{Text}
use Rattle.ls_schedule.specs.Answers as schedules
use Rattle.ls_schedule.specs.Reading.{thread_name}
use Rattle.ls_schedule.specs.declared.fault.ScheduleFault.{ScheduleFault}
use Rattle.ls_schedule.specs.declared.fault.ScheduleFault.TheVariants as schedule
use Rattle.ls_aim.specs.Aims.{all_taken, and_then, followed, gone, on_read, taken, taken_by, thread_names_of}
use Rattle.ls_aim.specs.Reading.{Target, mark_of, schedule_said, target_said}
use Rattle.ls_aim.specs.Answers.{Fails, Gives, lifted}
use Rattle.ls_aim.specs.declared.fault.AimFault.{AimFault}
use Rattle.ls_aim.specs.declared.fault.AimFault.TheVariants as fault

-- what a fault is, it is also where memory may run out
pub fails_of : {X : Type 0} (e : AimFault) (said : Result X AimFault) → said ≡ Err e → Fails e said
fails_of fault.Memory said h = tt
fails_of (fault.Schedule f) said h = h
fails_of (fault.NotStarted at) said h = h
fails_of (fault.NotMet at) said h = h
fails_of (fault.TooFar at) said h = h

-- the names of the threads
pub names_are : (ts : List ThreadProgram) → map thread_name ts ≡ map (λ t. t.name) (map plain_thread ts)
names_are [] = refl
names_are (t ∷ ts) = ap (λ (ns : List Text). thread_name t ∷ ns) (names_are ts)

-- an item that isn't read
pub unread : {A : Type 0} (f : ScheduleFault) (read : Result A ScheduleFault) (go_on : A → Result (List ℕ) AimFault)
    → schedules.Fails f read → Fails (lifted f) (on_read read go_on)
unread schedule.Memory read go_on h = tt
unread (schedule.BadItem at) read go_on h = ap (λ r. on_read r go_on) h
unread (schedule.UnknownThread at) read go_on h = ap (λ r. on_read r go_on) h
unread schedule.TooManySteps read go_on h = ap (λ r. on_read r go_on) h

unsaid : {A : Type 0} (f : ScheduleFault) (read : Result A ScheduleFault) (go_on : A → Result (List ℕ) AimFault)
    → read ≡ Err f → Fails (lifted f) (on_read read go_on)
unsaid schedule.Memory read go_on h = tt
unsaid (schedule.BadItem at) read go_on h = ap (λ r. on_read r go_on) h
unsaid (schedule.UnknownThread at) read go_on h = ap (λ r. on_read r go_on) h
unsaid schedule.TooManySteps read go_on h = ap (λ r. on_read r go_on) h

module _ (names : Names) (steps : List ℕ) (at : ℕ) (item : Text) (texts : List Text) where
  -- an item with a mark
  pub no_target : (mark : ℕ) (f : ScheduleFault) →
      texts ≡ thread_names_of names →
      Some mark ≡ mark_of item →
      target_said texts at item mark ≡ Err f
      → Fails (lifted f) (taken names steps (at, item))
  no_target mark f same marked h =
      subst (λ m. Fails (lifted f) (taken_by names steps (at, item) m)) marked
      (unsaid f (target_said (thread_names_of names) at item mark) (λ t. gone names at steps t)
      (ap (λ ns. target_said ns at item mark) (sym same) ∙ h))

  pub a_target : (mark : ℕ) (t : Target) →
      texts ≡ thread_names_of names →
      Some mark ≡ mark_of item →
      target_said texts at item mark ≡ Ok t
      → gone names at steps t ≡ taken names steps (at, item)
  a_target mark t same marked h =
      ap (λ read. on_read read (λ u. gone names at steps u)) (sym h)
      ∙ ap (λ ns. on_read (target_said ns at item mark) (λ u. gone names at steps u)) same
      ∙ ap (λ m. taken_by names steps (at, item) m) marked

  -- one without
  pub no_steps : (f : ScheduleFault) →
      texts ≡ thread_names_of names →
      None ≡ mark_of item →
      schedules.Fails f (schedule_said texts at item)
      → Fails (lifted f) (taken names steps (at, item))
  no_steps f same marked h =
      subst (λ m. Fails (lifted f) (taken_by names steps (at, item) m)) marked
      (subst (λ ns. Fails (lifted f) (on_read (schedule_said ns at item) (λ more. followed steps more))) same
      (unread f (schedule_said texts at item) (λ more. followed steps more) h))

  pub some_steps : (more : List ℕ) →
      texts ≡ thread_names_of names →
      None ≡ mark_of item →
      schedule_said texts at item ≡ Ok more
      → followed steps more ≡ taken names steps (at, item)
  some_steps more same marked h =
      ap (λ read. on_read read (λ m. followed steps m)) (sym h)
      ∙ ap (λ ns. on_read (schedule_said ns at item) (λ m. followed steps m)) same
      ∙ ap (λ m. taken_by names steps (at, item) m) marked

-- an item that is taken
pub one_more : (names : Names) (steps more : List ℕ) (i : Item) (is : List Item) (whole : Result (List ℕ) AimFault)
    → taken names steps i ≡ Ok more → all_taken names steps (i ∷ is) ≡ whole → all_taken names more is ≡ whole
one_more names steps more i is whole e h = ap (λ t. and_then t (λ m. all_taken names m is)) (sym e) ∙ h
