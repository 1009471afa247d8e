-- The steps that targets take are of threads that are there, and are no more than a schedule has.
use Rattle.ls_events.specs.Limits.{most_steps}
use Rattle.std.proofs.Common.{◌≡◌, ℕ, zero, suc, ◌+◌, ◌-◌, ◌<◌, ◌≤◌, refl, arith, Bool, true, false, List, [], ◌∷◌}
use Rattle.std.proofs.Common.{◌++◌, length, take, drop, map, Option, Some, None, Result, Ok, Err}
use Rattle.std.specs.Prelude.{All, nat_lt, if◌then◌else◌}
use Rattle.std.specs.List.{position, position_or_len}
use Rattle.std.specs.Str.{bytes_eq}
use Rattle.std.proofs.lemmas.Bool.Decides.{nat_tests}
use Rattle.std.proofs.lemmas.List.{length-append}
use Rattle.std.proofs.lemmas.List.Elements.{All-append, All-cons, All-nil}
use Rattle.ls_lexer.specs.Names.{is_name}
use Rattle.ls_items.specs.Items.{Item}
use Rattle.ls_labels.specs.Names.{Names}
use Rattle.ls_report.specs.Events.{Text}
use Rattle.ls_schedule.specs.declared.fault.ScheduleFault.{ScheduleFault}
use Rattle.ls_schedule.specs.declared.fault.ScheduleFault.TheVariants as schedule
use Rattle.ls_schedule.specs.Reading.{schedule_of}
use Rattle.ls_aim.specs.declared.fault.AimFault.{AimFault}
use Rattle.ls_aim.specs.declared.fault.AimFault.TheVariants as fault
use Rattle.ls_aim.specs.Aims.{Arrived, GoesOn, Missed, Sight, aimed, all_taken, and_then, by_sight, followed, gone}
use Rattle.ls_aim.specs.Aims.{gone_to, on_read, room_after, sight, taken, taken_by, thread_names_of}
use Rattle.ls_aim.specs.Reading.{Stop, Target, alone, is_text, mark_of, named, placed, schedule_said, stop_said}
use Rattle.ls_aim.specs.Reading.{target_said, thread_said}
use Rattle.ls_aim.specs.Runs.{Run, after_step, run_of}
use Rattle.ls_aim.specs.Texts.{items_of}

module _ (names : Names) where
  abbrev pub threads : ℕ
  threads = length (thread_names_of names)

  abbrev pub AreThere : List ℕ → Type 0
  AreThere steps = All (λ t. t < threads) steps

  abbrev pub Fit : List ℕ → Type 0
  Fit steps = AreThere steps × (length steps ≤ most_steps)

  abbrev pub Fits : Result (List ℕ) AimFault → Type 0
  Fits (Ok steps) = Fit steps
  Fits (Err f) = Unit {0}

  sight_fits : (s : Sight) (steps : List ℕ) (go_on : Stop → Result (List ℕ) AimFault) →
      Fit steps →
      ((still : Stop) → Fits (go_on still)) →
      Fits (by_sight s steps go_on)
  sight_fits Arrived steps go_on h k = h
  sight_fits (GoesOn still) steps go_on h k = k still
  sight_fits (Missed f) steps go_on h k = tt

  to_fits : (at thread : ℕ) →
      thread < threads →
      (r : Run) (stop : Stop) (steps : List ℕ) (room : ℕ) →
      AreThere steps →
      length steps + room ≤ most_steps
      → Fits (gone_to names at thread r stop steps room)
  to_fits at thread lt r stop steps zero h few =
      sight_fits (sight names at r thread stop) steps (λ still. Err (fault.TooFar at)) (h, omega arith) (λ still. tt)
  to_fits at thread lt r stop steps (suc room) h few =
      sight_fits (sight names at r thread stop) steps (λ still.
      gone_to names at thread (after_step names r thread) still (steps ++ thread ∷ []) room)
      (h, omega arith)
      (λ still. to_fits at thread lt (after_step names r thread) still (steps ++ thread ∷ []) room
      (All-append (λ t. t < threads) steps (thread ∷ []) h (All-cons (λ t. t < threads) thread [] lt
      (All-nil (λ t. t < threads))))
      (omega (arith, length-append steps (thread ∷ []))))

  followed_fits : (steps more : List ℕ) → AreThere steps → AreThere more → Fits (followed steps more)
  followed_fits steps more h k = by_test (nat_lt most_steps (length (steps ++ more))) refl
    where
      by_test : (b : Bool) →
          nat_lt most_steps (length (steps ++ more)) ≡ b →
          Fits (if b then Err (fault.Schedule schedule.TooManySteps) else Ok (steps ++ more))
      by_test true e = tt
      by_test false e = (All-append (λ t. t < threads) steps more h k, grind (arith, nat_tests))

  -- what schedule texts say is of threads that are there
  abbrev pub SaysThere : Type 0
  SaysThere = (said steps : List ℕ) → schedule_of (thread_names_of names) said ≡ Ok steps → AreThere steps

  placed_fits : (at len : ℕ) (steps : List ℕ) →
      AreThere steps →
      (x : Result (List ℕ) ScheduleFault) →
      ((more : List ℕ) → x ≡ Ok more → AreThere more)
      → Fits (on_read (placed at len x) (λ more. followed steps more))
  placed_fits at len steps h (Ok more) k = followed_fits steps more h (k more refl)
  placed_fits at len steps h (Err f) k = tt

  said_fits : SaysThere → (at : ℕ) (item steps : List ℕ) → AreThere steps
      → Fits (on_read (schedule_said (thread_names_of names) at item) (λ more. followed steps more))
  said_fits says at item steps h = by_test (is_text item)
    where
      by_test : (b : Bool)
          → Fits (on_read (if b then placed at (length item) (schedule_of (thread_names_of names) (alone item)) else
          Err (schedule.BadItem at)) (λ more. followed steps more))
      by_test true = placed_fits at (length item) steps h (schedule_of (thread_names_of names) (alone item))
          (says (alone item))
      by_test false = tt

  thread_fits : (at : ℕ) (stop : Stop) (p : Text → Bool) (steps : List ℕ) → AreThere steps → length steps ≤ most_steps
      → Fits (on_read (thread_said at stop (position p (thread_names_of names))) (λ t. gone names at steps t))
  thread_fits at stop p steps h few = by_test (nat_lt (position_or_len p (thread_names_of names)) threads) refl
    where
      by_test : (b : Bool) → nat_lt (position_or_len p (thread_names_of names)) threads ≡ b
          → Fits (on_read (thread_said at stop (if b then Some (position_or_len p (thread_names_of names)) else None))
          (λ t. gone names at steps t))
      by_test true e =
          to_fits at (position_or_len p (thread_names_of names)) (grind (arith, nat_tests)) (run_of names steps) stop
          steps (room_after steps) h (omega arith)
      by_test false e = tt

  named_fits : (at : ℕ) (name : Text) (stop : Option Stop) (steps : List ℕ) → AreThere steps → length steps ≤ most_steps
      → Fits (on_read (named (thread_names_of names) at name stop) (λ t. gone names at steps t))
  named_fits at name None steps h few = tt
  named_fits at name (Some stop) steps h few = by_test (is_name name)
    where
      by_test : (b : Bool)
          → Fits (on_read (if b then thread_said at stop (position (λ n. bytes_eq n name) (thread_names_of names)) else
          Err (schedule.BadItem at)) (λ t. gone names at steps t))
      by_test true = thread_fits at stop (λ n. bytes_eq n name) steps h few
      by_test false = tt

  taken_fits : SaysThere →
      (i : Item) (steps : List ℕ) →
      Fit steps →
      (mark : Option ℕ) →
      Fits (taken_by names steps i mark)
  taken_fits says i steps h None = said_fits says i.0 i.1 steps h.0
  taken_fits says i steps h (Some mark) = named_fits i.0 (take mark i.1) (stop_said (drop mark i.1)) steps h.0 h.1

  all_fit : SaysThere → (is : List Item) (steps : List ℕ) → Fit steps → Fits (all_taken names steps is)
  all_fit says [] steps h = h
  all_fit says (i ∷ is) steps h = goes_on (all_fit says is) (taken names steps i)
      (taken_fits says i steps h (mark_of i.1))
    where
      goes_on : ((more : List ℕ) → Fit more → Fits (all_taken names more is)) → (x : Result (List ℕ) AimFault) → Fits x
          → Fits (and_then x (λ more. all_taken names more is))
      goes_on next (Ok more) k = next more k
      goes_on next (Err f) k = tt

  pub aimed_fits : SaysThere → (text : Text) → Fits (aimed names text)
  aimed_fits says text = all_fit says (items_of text) [] (All-nil (λ t. t < threads), omega arith)
