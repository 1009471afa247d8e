-- What the reader's functions answer.
use Rattle.ls_answers.specs.Answers as answers
use Rattle.ls_events.specs.Limits.{most_steps}
use Rattle.std.specs.Prelude.{◌≡◌, ◌-◌, ℕ, Bool, not, List, [], ◌∷◌, ◌++◌, length, min, nat_lt, Option, Some, None}
use Rattle.std.specs.Prelude.{Result, Ok, Err, if◌then◌else◌}
use Rattle.std.specs.List.{range_with_len}
use Rattle.ls_schedule.specs.declared.fault.ScheduleFault.{ScheduleFault}
use Rattle.ls_schedule.specs.declared.fault.ScheduleFault.TheVariants as fault
use Rattle.ls_schedule.specs.declared.reading.Who.{Who}
use Rattle.ls_schedule.specs.declared.reading.Who.TheVariants as who
use Rattle.ls_schedule.specs.declared.reading.Said.{Said}
use Rattle.ls_items.specs.Items.{Item, items}
use Rattle.ls_schedule.specs.Reading.{Turns, each, repeated, steps_of, turns_of, within, ◌>>=◌}

-- what a fault says of a text; "out of memory" says nothing
abbrev pub meant : ScheduleFault → Option ScheduleFault
meant fault.Memory = None
meant f = Some f

-- what a function returned, seen by view, is what reading gives, unless memory ran out
abbrev pub Fails : {Y : Type 0} → ScheduleFault → Result Y ScheduleFault → Type 0
Fails f read = answers.Refuses (meant f) read

abbrev pub Gives : {X Y : Type 0} → (X → Y) → Result X ScheduleFault → Result Y ScheduleFault → Type 0
Gives view result read = answers.Gives meant view result read

-- a count of over 1,000,000 is kept as 1,000,001
abbrev pub capped : Turns → Turns
capped p = (p.0, min p.1 1000001)

abbrev pub threads_of : ℕ → Who → List ℕ
threads_of names (who.One t) = t ∷ []
threads_of names who.All = range_with_len 1 (names - 1)

-- what is kept of an item, of a program with so many names
abbrev pub view : ℕ → Said → Turns
view names said = (threads_of names said.who, said.count)

abbrev pub capped_turns : List (List ℕ) → Item → Result Turns ScheduleFault
capped_turns names item = turns_of names item >>= λ p. Ok (capped p)

-- the schedule of a text whose counts are so kept
abbrev pub capped_schedule : List (List ℕ) → List ℕ → Result (List ℕ) ScheduleFault
capped_schedule names text = each (capped_turns names) (items 0 text) >>= λ turns. within (steps_of turns)

-- the steps so far: none once they are too many
abbrev pub so_far : Bool → List ℕ → Option (List ℕ)
so_far fits steps = if fits then Some steps else None

-- the steps so far, and these threads so often
abbrev pub more_steps : Option (List ℕ) → List ℕ → ℕ → Option (List ℕ)
more_steps None threads count = None
more_steps (Some steps) threads count =
    let all = steps ++ repeated count threads in so_far (not (nat_lt most_steps (length all))) all

-- a function returned what reading gives, seen by view: memory never runs out
abbrev pub Says : {X Y : Type 0} → (X → Y) → Result X ScheduleFault → Result Y ScheduleFault → Type 0
Says view (Ok x) read = read ≡ Ok (view x)
Says view (Err e) read = read ≡ Err e
