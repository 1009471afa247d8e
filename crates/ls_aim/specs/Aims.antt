-- The steps that targets take.
use Rattle.ls_events.specs.Limits.{most_steps}
use Rattle.std.specs.Prelude.{◌==◌, ◌-◌, ℕ, zero, suc, Bool, List, [], ◌∷◌, ◌++◌, length, map, nat_lt, Option, Some}
use Rattle.std.specs.Prelude.{None, Result, Ok, Err, if◌then◌else◌}
use Rattle.ls_events.specs.declared.value.Value.{Value}
use Rattle.ls_meaning.specs.declared.step.Asked.{Asked}
use Rattle.ls_meaning.specs.declared.step.Asked.TheVariants.{Asks, Ended, NotStarted}
use Rattle.ls_meaning.specs.declared.step.Did.{Did}
use Rattle.ls_meaning.specs.declared.step.Did.TheVariants.{Acted, Waits, Idle}
use Rattle.ls_meaning.specs.Runs.{asked}
use Rattle.ls_report.specs.Events.{Text}
use Rattle.ls_labels.specs.Names.{Names}
use Rattle.ls_labels.specs.Words.{performed_text}
use Rattle.ls_items.specs.Items.{Item}
use Rattle.ls_schedule.specs.declared.fault.ScheduleFault.{ScheduleFault}
use Rattle.ls_schedule.specs.declared.fault.ScheduleFault.TheVariants as schedule
use Rattle.ls_aim.specs.declared.fault.AimFault.{AimFault}
use Rattle.ls_aim.specs.declared.fault.AimFault.TheVariants as fault
use Rattle.ls_aim.specs.Labels.{has_text}
use Rattle.ls_aim.specs.Reading.{Before, Rest, Stop, Target, mark_of, schedule_said, target_said}
use Rattle.ls_aim.specs.Runs.{Run, after_step, run_of, step_in}
use Rattle.ls_aim.specs.Texts.{items_of}

-- what a thread does that is to stop: it stops here, it takes a step and is then to stop so, or it can't come there
pub data Sight : Type 0 where
  Arrived : Sight
  GoesOn : (stop : Stop) → Sight
  Missed : (fault : AimFault) → Sight

-- before a step that has the text
abbrev pub met : ℕ → Text → Sight
met passing text = if passing == 0 then Arrived else GoesOn (Before (passing - 1) text)

-- before a step with this label
abbrev pub before_step : Stop → Text → Sight
before_step Rest label = GoesOn Rest
before_step (Before passing text) label = if has_text text label then met passing text else GoesOn (Before passing text)

-- where the thread has ended or waits
abbrev pub halted : ℕ → Stop → Sight
halted at Rest = Arrived
halted at (Before passing text) = Missed (fault.NotMet at)

-- where a step would change nothing, by what the thread asks for
abbrev pub at_rest : ℕ → Stop → Asked → Sight
at_rest at stop NotStarted = Missed (fault.NotStarted at)
at_rest at stop (Asks action) = halted at stop
at_rest at stop Ended = halted at stop

-- by what a step would do; the run is the one after it
abbrev pub seen : Names → ℕ → Run → ℕ → Stop → Did → Sight
seen names at r thread stop (Acted action answer) = before_step stop
    (performed_text names r.labels thread action answer)
seen names at r thread stop Waits = at_rest at stop (asked names.file names.program r.state thread)
seen names at r thread stop Idle = at_rest at stop (asked names.file names.program r.state thread)

-- what a thread does after a run, for a target at this place
abbrev pub sight : Names → ℕ → Run → ℕ → Stop → Sight
sight names at r thread stop = seen names at (after_step names r thread) thread stop (step_in names r thread).did

abbrev pub by_sight : Sight → List ℕ → (Stop → Result (List ℕ) AimFault) → Result (List ℕ) AimFault
by_sight Arrived steps go_on = Ok steps
by_sight (GoesOn stop) steps go_on = go_on stop
by_sight (Missed f) steps go_on = Err f

-- These steps, and those of the thread until it stops: at most so many. The run is the one after the steps.
abbrev pub gone_to : Names → ℕ → ℕ → Run → Stop → List ℕ → ℕ → Result (List ℕ) AimFault
gone_to names at thread r stop steps zero = by_sight (sight names at r thread stop) steps
    (λ still. Err (fault.TooFar at))
gone_to names at thread r stop steps (suc room) =
    by_sight (sight names at r thread stop) steps
    (λ still. gone_to names at thread (after_step names r thread) still (steps ++ thread ∷ []) room)

-- a schedule has 1,000,000 steps at the most
abbrev pub room_after : List ℕ → ℕ
room_after steps = most_steps - length steps

abbrev pub gone : Names → ℕ → List ℕ → Target → Result (List ℕ) AimFault
gone names at steps t = gone_to names at t.thread (run_of names steps) t.stop steps (room_after steps)

-- these steps, and then those
abbrev pub followed : List ℕ → List ℕ → Result (List ℕ) AimFault
followed steps more = if nat_lt most_steps (length (steps ++ more)) then Err (fault.Schedule schedule.TooManySteps) else
    Ok (steps ++ more)

abbrev pub on_read : {A : Type 0} → Result A ScheduleFault → (A → Result (List ℕ) AimFault) → Result (List ℕ) AimFault
on_read (Ok x) go_on = go_on x
on_read (Err f) go_on = Err (fault.Schedule f)

abbrev pub thread_names_of : Names → List Text
thread_names_of names = map (λ t. t.name) names.program.threads

-- the steps after an item, by the place of its mark: without one it is an item or a group of schedules
abbrev pub taken_by : Names → List ℕ → Item → Option ℕ → Result (List ℕ) AimFault
taken_by names steps i None = on_read (schedule_said (thread_names_of names) i.0 i.1) (λ more. followed steps more)
taken_by names steps i (Some mark) = on_read (target_said (thread_names_of names) i.0 i.1 mark)
    (λ t. gone names i.0 steps t)

abbrev pub taken : Names → List ℕ → Item → Result (List ℕ) AimFault
taken names steps i = taken_by names steps i (mark_of i.1)

abbrev pub and_then : Result (List ℕ) AimFault → (List ℕ → Result (List ℕ) AimFault) → Result (List ℕ) AimFault
and_then (Ok steps) go_on = go_on steps
and_then (Err f) go_on = Err f

-- the steps after these items
abbrev pub all_taken : Names → List ℕ → List Item → Result (List ℕ) AimFault
all_taken names steps [] = Ok steps
all_taken names steps (i ∷ is) = and_then (taken names steps i) (λ more. all_taken names more is)

-- The schedule of a text with targets, or its first item that is refused.
abbrev pub aimed : Names → Text → Result (List ℕ) AimFault
aimed names text = all_taken names [] (items_of text)
