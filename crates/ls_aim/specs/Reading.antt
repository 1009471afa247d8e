-- What an item says.
use Rattle.std.specs.Prelude.{◌==◌, ◌&&◌, ◌||◌, ◌+◌, ◌-◌, ℕ, nat_lt, Bool, true, false, not, codes, List, [], ◌∷◌, ◌++◌}
use Rattle.std.specs.Prelude.{length, take, drop, min, Option, Some, None, Result, Ok, Err, if◌then◌else◌, option_map}
use Rattle.std.specs.List.{position}
use Rattle.std.specs.Str.{bytes_eq}
use Rattle.std.specs.Str.Lossy.{utf8_valid_len}
use Rattle.ls_lexer.specs.Names.{is_name}
use Rattle.ls_schedule.specs.declared.fault.ScheduleFault.{ScheduleFault}
use Rattle.ls_schedule.specs.declared.fault.ScheduleFault.TheVariants as fault
use Rattle.ls_schedule.specs.Reading.{count_of, schedule_of}
use Rattle.ls_aim.specs.declared.reading.Stop.{Stop as GivenStop}
use Rattle.ls_aim.specs.declared.reading.Stop.TheVariants as given
use Rattle.ls_aim.specs.declared.reading.Target.{Target as GivenTarget}
use Rattle.ls_aim.specs.Texts.{opens_group}

-- where a thread is to stop
pub data Stop : Type 0 where
  Rest : Stop  -- at its end, or where it waits
  Before : (passing : ℕ) → (text : List ℕ) → Stop  -- before a step with the text, of which it passes so many

abbrev pub stop_of : GivenStop → Stop
stop_of given.Rest = Rest
stop_of (given.Before passing text) = Before passing text.now

-- a thread, and where it is to stop
pub record Target : Type 0 where
  pub thread : ℕ
  pub stop : Stop

abbrev pub target_of : GivenTarget → Target
target_of t = record { thread = t.thread; stop = stop_of t.stop }

-- where the thread's name ends in an item of a target, which no group is
abbrev pub is_mark : ℕ → Bool
is_mark b = b == 33 || b == 58

abbrev pub mark_of : List ℕ → Option ℕ
mark_of item = if opens_group item then None else position is_mark item

-- ---- what stands after the name

abbrev pub is_quote : ℕ → Bool
is_quote b = b == 34

-- a text between quotes: the second ends the item
abbrev pub closed_at : List ℕ → Option ℕ → Option (List ℕ)
closed_at text None = None
closed_at text (Some i) = if ((i + 1) == length text) && not (i == 0) then Some (take i text) else None

abbrev pub bare : List ℕ → Option ℕ → Option (List ℕ)
bare text None = Some text
bare text (Some i) = None

-- a text of one byte or more, in double quotes or without any
abbrev pub text_said : List ℕ → Option (List ℕ)
text_said [] = None
text_said (b ∷ bs) = if is_quote b then closed_at bs (position is_quote bs) else
    bare (b ∷ bs) (position is_quote (b ∷ bs))

abbrev pub before : ℕ → List ℕ → Option Stop
before passing said = option_map (λ t. Before passing t) (text_said said)

-- a count above 1,000,000 is taken for 1,000,001
abbrev pub before_counted : List ℕ → ℕ → Option ℕ → Option Stop
before_counted said colon None = before 0 said
before_counted said colon (Some n) = before (min n 1000001 - 1) (drop (colon + 1) said)

-- as `2:TEXT` with a count, or `TEXT`
abbrev pub before_said : List ℕ → Option ℕ → Option Stop
before_said said None = before 0 said
before_said said (Some colon) = before_counted said colon (count_of (take colon said))

abbrev pub is_colon : ℕ → Bool
is_colon b = b == 58

abbrev pub rest_said : List ℕ → Option Stop
rest_said [] = Some Rest
rest_said (b ∷ bs) = None

-- `!`, or `:` with what is to be in the step's label
abbrev pub stop_said : List ℕ → Option Stop
stop_said [] = None
stop_said (b ∷ bs) = if b == 33 then rest_said bs else before_said bs (position is_colon bs)

-- ---- a target

abbrev pub thread_said : ℕ → Stop → Option ℕ → Result Target ScheduleFault
thread_said at stop None = Err (fault.UnknownThread at)
thread_said at stop (Some thread) = Ok (record { thread = thread; stop = stop })

abbrev pub named : List (List ℕ) → ℕ → List ℕ → Option Stop → Result Target ScheduleFault
named names at name None = Err (fault.BadItem at)
named names at name (Some stop) =
    if is_name name then thread_said at stop (position (λ n. bytes_eq n name) names) else Err (fault.BadItem at)

-- the target that an item says which begins at this place, and whose name ends at a mark
abbrev pub target_said : List (List ℕ) → ℕ → List ℕ → ℕ → Result Target ScheduleFault
target_said names at item mark = named names at (take mark item) (stop_said (drop mark item))

-- ---- an item or a group of schedules

-- all of it is UTF-8: so it is of each item of a text
abbrev pub is_text : List ℕ → Bool
is_text item = utf8_valid_len item == length item

-- the item alone as a schedule text
abbrev pub alone : List ℕ → List ℕ
alone item = codes "@2 " ++ item

-- a place in that, from the start of the text in which the item begins at a place
abbrev pub place_in : ℕ → ℕ → ℕ → ℕ
place_in at len place = if nat_lt (place - 3) len then at + (place - 3) else at

abbrev pub fault_in : ℕ → ℕ → ScheduleFault → ScheduleFault
fault_in at len (fault.BadItem place) = fault.BadItem (place_in at len place)
fault_in at len (fault.UnknownThread place) = fault.UnknownThread (place_in at len place)
fault_in at len f = f

abbrev pub placed : ℕ → ℕ → Result (List ℕ) ScheduleFault → Result (List ℕ) ScheduleFault
placed at len (Ok steps) = Ok steps
placed at len (Err f) = Err (fault_in at len f)

-- the steps that an item without a mark says
abbrev pub schedule_said : List (List ℕ) → ℕ → List ℕ → Result (List ℕ) ScheduleFault
schedule_said names at item =
    if is_text item then placed at (length item) (schedule_of names (alone item)) else Err (fault.BadItem at)
