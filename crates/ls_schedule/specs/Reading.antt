-- What a schedule text says.
use Rattle.ls_events.specs.Limits.{most_steps}
use Rattle.std.specs.Prelude.{◌==◌, ◌&&◌, ◌+◌, ◌-◌, ℕ, zero, suc, Bool, true, false, not, List, [], ◌∷◌, ◌++◌, length}
use Rattle.std.specs.Prelude.{take, drop, nat_lt, Option, Some, None, Result, Ok, Err, if◌then◌else◌, codes, option_map}
use Rattle.std.specs.Prelude.{map, string_bytes}
use Rattle.std.specs.Option.{option_map_or}
use Rattle.std.specs.List.{flat_map, list_all, position, range_with_len}
use Rattle.std.specs.Str.{bytes_eq}
use Rattle.std.specs.Str.Parse.{digits_value}
use Rattle.ls_checked.specs.declared.program.Program.{Program}
use Rattle.ls_checked.specs.declared.program.ThreadProgram.{ThreadProgram}
use Rattle.ls_lexer.specs.Names.{is_name}
use Rattle.ls_schedule.specs.declared.fault.ScheduleFault.{ScheduleFault}
use Rattle.ls_schedule.specs.declared.fault.ScheduleFault.TheVariants as fault
use Rattle.ls_items.specs.Items.{Item, items}
use Rattle.ls_lexer.specs.Characters.{is_digit}
use Rattle.ls_schedule.specs.Pieces.{Piece, Gap, Word, Opens, Closes, opens, pieces, second_version}

abbrev pub thread_name : ThreadProgram → List ℕ
thread_name t = string_bytes t.name

-- the names of a program's threads, the setup first
abbrev pub thread_names : Program → List (List ℕ)
thread_names program = map thread_name program.threads.items

-- a digit that isn't 0, and then digits
abbrev pub is_count : List ℕ → Bool
is_count [] = false
is_count (b ∷ bs) = not (b == 48) && list_all is_digit (b ∷ bs)

-- the number of times, where it has the form of a count
abbrev pub count_of : List ℕ → Option ℕ
count_of digits = if is_count digits then Some (digits_value 10 digits) else None

-- the name before the star with the count after it, and 1 where there is no star
abbrev pub parts_of : List ℕ → List ℕ × Option ℕ
parts_of item = option_map_or (λ i. (take i item, count_of (drop (i + 1) item)))
    (position (λ b. b == 42) item) (item, Some 1)

-- the threads that a name stands for
abbrev pub threads_named : List (List ℕ) → List ℕ → Option (List ℕ)
threads_named names name = if bytes_eq name (codes "all") then Some (range_with_len 1 (length names - 1))
    else option_map (λ t. t ∷ []) (position (λ n. bytes_eq n name) names)

-- the threads and how often they go
abbrev pub Turns : Type 0
Turns = List ℕ × ℕ

abbrev pub known : ℕ → Option (List ℕ) → ℕ → Result Turns ScheduleFault
known at None n = Err (fault.UnknownThread at)
known at (Some ts) n = Ok (ts, n)

abbrev pub counted : List (List ℕ) → ℕ → List ℕ → Option ℕ → Result Turns ScheduleFault
counted names at name None = Err (fault.BadItem at)
counted names at name (Some n) =
    if is_name name then known at (threads_named names name) n else Err (fault.BadItem at)

abbrev pub turns_of : List (List ℕ) → Item → Result Turns ScheduleFault
turns_of names item = counted names item.0 (parts_of item.1).0 (parts_of item.1).1

-- ---- texts of version 1

infixl 10 ◌>>=◌
abbrev pub ◌>>=◌ : {A B E : Type 0} → Result A E → (A → Result B E) → Result B E
(Ok x) >>= f = f x
(Err e) >>= f = Err e

-- each of the items read, or the first fault
abbrev pub each : {A B E : Type 0} → (A → Result B E) → List A → Result (List B) E
each f [] = Ok []
each f (x ∷ xs) = f x >>= λ y. each f xs >>= λ ys. Ok (y ∷ ys)

abbrev pub repeated : ℕ → List ℕ → List ℕ
repeated zero ts = []
repeated (suc n) ts = ts ++ repeated n ts

abbrev pub steps_of : List Turns → List ℕ
steps_of = flat_map (λ p. repeated p.1 p.0)

abbrev pub within : List ℕ → Result (List ℕ) ScheduleFault
within steps = if nat_lt most_steps (length steps) then Err fault.TooManySteps else Ok steps

-- What a text of version 1 says: its items stand between gaps.
abbrev pub plain_schedule : List (List ℕ) → List ℕ → Result (List ℕ) ScheduleFault
plain_schedule names text = each (turns_of names) (items 0 text) >>= λ turns. within (steps_of turns)

-- ---- groups

-- what stands so far in a group, or in the text outside of all groups: whether anything does, and its steps or first
-- fault
pub record Content : Type 0 where
  pub filled : Bool
  pub steps : Result (List ℕ) ScheduleFault

abbrev pub nothing : Content
nothing = record { filled = false; steps = Ok [] }

-- and after it these steps, or this fault
abbrev pub followed_by : Content → Result (List ℕ) ScheduleFault → Content
followed_by c more = record { filled = true; steps = c.steps >>= λ ts. more >>= λ us. Ok (ts ++ us) }

-- a group that is open: where it begins, and what stands before it in that in which it stands
pub record Group : Type 0 where
  pub at : ℕ
  pub before : Content

-- an item, which no `(` follows without a gap
abbrev pub item_turns : List (List ℕ) → ℕ → List ℕ → Bool → Result Turns ScheduleFault
item_turns names at bytes joined = if joined then Err (fault.BadItem at) else turns_of names (at, bytes)

-- how often a group goes: a star and a count, or once
abbrev pub times_of : List ℕ → Option ℕ
times_of [] = Some 1
times_of (b ∷ bs) = if b == 42 then count_of bs else None

-- where this stands directly after its closing parenthesis, and then no `(` without a gap
abbrev pub group_times : List ℕ → Bool → Option ℕ
group_times after joined = if joined then None else times_of after

-- the form of a group is told before what stands in it
abbrev pub group_steps : ℕ → Bool → Option ℕ → Result (List ℕ) ScheduleFault → Result (List ℕ) ScheduleFault
group_steps at formed None steps = Err (fault.BadItem at)
group_steps at formed (Some n) steps = if formed then (steps >>= λ ts. Ok (repeated n ts)) else Err (fault.BadItem at)

-- a group that ends here, in these others: at most eight in one another, and none is empty
abbrev pub closed : Group → List Group → Content → Option ℕ → Content
closed g others c times = followed_by g.before (group_steps g.at (nat_lt (length others) 8 && c.filled) times c.steps)

-- at the end of a text no group is open
abbrev pub ended : List Group → Content → Result (List ℕ) ScheduleFault
ended [] c = c.steps
ended (g ∷ gs) c = ended gs (followed_by g.before (Err (fault.BadItem g.at)))

-- the steps of a text with these open groups, the innermost first, in which this stands so far and these pieces follow
abbrev pub steps_in : List (List ℕ) → List Group → Content → List Piece → Result (List ℕ) ScheduleFault
steps_in names gs c [] = ended gs c
steps_in names gs c (Gap ∷ ps) = steps_in names gs c ps
steps_in names gs c (Word at bytes ∷ ps) =
    steps_in names gs (followed_by c (item_turns names at bytes (opens ps) >>= λ p. Ok (repeated p.1 p.0))) ps
steps_in names gs c (Opens at ∷ ps) = steps_in names (record { at = at; before = c } ∷ gs) nothing ps
steps_in names [] c (Closes at after ∷ ps) = steps_in names [] (followed_by c (Err (fault.BadItem at))) ps
steps_in names (g ∷ gs) c (Closes at after ∷ ps) = steps_in names gs (closed g gs c (group_times after (opens ps))) ps

-- what a text of version 2 says, after its `@2`
abbrev pub group_schedule : List (List ℕ) → List Piece → Result (List ℕ) ScheduleFault
group_schedule names ps = steps_in names [] nothing ps >>= within

-- ---- both versions

abbrev pub by_version : List (List ℕ) → List ℕ → Option (List Piece) → Result (List ℕ) ScheduleFault
by_version names text None = plain_schedule names text
by_version names text (Some ps) = group_schedule names ps

-- The steps that a text names, or its fault: the first item or group of bad form or item of an unknown thread,
-- and where there is none the length.
abbrev pub schedule_of : List (List ℕ) → List ℕ → Result (List ℕ) ScheduleFault
schedule_of names text = by_version names text (second_version (pieces 0 text))
