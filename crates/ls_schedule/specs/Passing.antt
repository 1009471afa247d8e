-- What the functions answer that read a text of version 2 in one pass.
use Rattle.ls_events.specs.Limits.{most_steps}
use Rattle.std.specs.Prelude.{◌≡◌, ◌==◌, ◌-◌, ◌+◌, ◌<◌, ◌≤◌, ℕ, zero, suc, Bool, true, false, not, List, [], ◌∷◌}
use Rattle.std.specs.Prelude.{length, take, drop, map, min, nat_lt, reverse, slice_get, unwrap_or, Option, Some, None}
use Rattle.std.specs.Prelude.{option_map, Result, Ok, Err, if◌then◌else◌}
use Rattle.std.specs.List.{prefix_len}
use Rattle.ls_schedule.specs.declared.fault.ScheduleFault.{ScheduleFault}
use Rattle.ls_schedule.specs.declared.fault.ScheduleFault.TheVariants as fault
use Rattle.ls_schedule.specs.declared.groups.Opened.{Opened}
use Rattle.ls_schedule.specs.declared.groups.Reader.{Reader}
use Rattle.ls_schedule.specs.Pieces.{Piece, Gap, Word, Opens, Closes, ends_word, opens, pieces}
use Rattle.ls_schedule.specs.Reading.{Turns, group_times, item_turns, ◌>>=◌}
use Rattle.ls_schedule.specs.Answers.{Fails, capped, more_steps, so_far}

-- ---- bytes

-- how many bytes stand before the first that ends a word
abbrev pub word_len : List ℕ → ℕ
word_len bs = prefix_len (λ b. not (ends_word b)) bs

abbrev pub begins_group : List ℕ → Bool
begins_group [] = false
begins_group (b ∷ bs) = b == 40

-- how often a group goes whose closing parenthesis these bytes follow
abbrev pub times_here : List ℕ → Option ℕ
times_here bs = group_times (take (word_len bs) bs) (begins_group (drop (word_len bs) bs))

abbrev pub capped_times : Option ℕ → Option ℕ
capped_times times = option_map (λ n. min n 1000001) times

-- ---- a fault, and the groups round it

-- The places of the groups round a fault, the innermost first: the outermost that isn't closed has the first fault.
abbrev pub unclosed : List ℕ → ScheduleFault → ScheduleFault
unclosed [] e = e
unclosed (a ∷ xs) e = unclosed xs (fault.BadItem a)

-- what a closing parenthesis ends: one of the groups that begin after the fault, or the innermost round it
abbrev pub fewer : ℕ → ℕ
fewer zero = zero
fewer (suc deeper) = deeper

abbrev pub left_open : ℕ → List ℕ → List ℕ
left_open (suc deeper) xs = xs
left_open zero [] = []
left_open zero (a ∷ xs) = xs

-- a group that goes no number of times has the first fault
abbrev pub fault_after : ℕ → List ℕ → ScheduleFault → Option ℕ → ScheduleFault
fault_after (suc deeper) xs e times = e
fault_after zero [] e times = e
fault_after zero (a ∷ xs) e (Some n) = e
fault_after zero (a ∷ xs) e None = fault.BadItem a

-- the first fault, of the groups at these places round a fault and of that, within so many groups that begin after it
abbrev pub outer_fault : List ℕ → ℕ → ScheduleFault → List ℕ → ScheduleFault
outer_fault xs deeper e [] = unclosed xs e
outer_fault xs deeper e (b ∷ bs) =
    if b == 40 then outer_fault xs (suc deeper) e bs
    else if b == 41 then outer_fault (left_open deeper xs) (fewer deeper) (fault_after deeper xs e (times_here bs)) bs
    else outer_fault xs deeper e bs

-- the same by pieces
abbrev pub first_fault : List ℕ → ℕ → ScheduleFault → List Piece → ScheduleFault
first_fault xs deeper e [] = unclosed xs e
first_fault xs deeper e (Gap ∷ ps) = first_fault xs deeper e ps
first_fault xs deeper e (Word at bytes ∷ ps) = first_fault xs deeper e ps
first_fault xs deeper e (Opens at ∷ ps) = first_fault xs (suc deeper) e ps
first_fault xs deeper e (Closes at after ∷ ps) =
    first_fault (left_open deeper xs) (fewer deeper) (fault_after deeper xs e (group_times after (opens ps))) ps

abbrev pub places : List Opened → List ℕ
places os = map (λ (o : Opened). o.at) os

abbrev pub place_of : List ℕ → ℕ → ℕ
place_of xs k = unwrap_or (slice_get xs k) 0

-- the first so many places, the last of them first
abbrev pub last_first : List ℕ → ℕ → List ℕ
last_first xs zero = []
last_first xs (suc k) = place_of xs k ∷ last_first xs k

-- ---- the steps so far

-- none once they are too many
abbrev pub kept : List ℕ → Option (List ℕ)
kept all = so_far (not (nat_lt most_steps (length all))) all

abbrev pub kept_len : Option (List ℕ) → ℕ
kept_len None = 0
kept_len (Some steps) = length steps

-- the last of them, from a place on, so many times in place of once
abbrev pub again : Option (List ℕ) → ℕ → ℕ → Option (List ℕ)
again None from n = None
again (Some steps) from n = more_steps (Some steps) (drop from steps) (n - 1)

abbrev pub finish : Option (List ℕ) → Result (List ℕ) ScheduleFault
finish None = Err fault.TooManySteps
finish (Some steps) = Ok steps

abbrev pub finished : List Opened → Option (List ℕ) → Result (List ℕ) ScheduleFault
finished [] s = finish s
finished (o ∷ os) s = Err (unclosed (places os) (fault.BadItem o.at))

-- ---- the pass

abbrev pub or_fault : {A : Type 0} →
    Result A ScheduleFault →
    (A → Result (List ℕ) ScheduleFault) →
    (ScheduleFault → ScheduleFault) →
    Result (List ℕ) ScheduleFault
or_fault (Ok x) go_on other = go_on x
or_fault (Err e) go_on other = Err (other e)

abbrev pub capped_item : List (List ℕ) → ℕ → List ℕ → Bool → Result Turns ScheduleFault
capped_item names at bytes joined = item_turns names at bytes joined >>= λ p. Ok (capped p)

abbrev pub group_count : Bool → ℕ → Option ℕ → Result ℕ ScheduleFault
group_count filled at None = Err (fault.BadItem at)
group_count filled at (Some n) = if filled then Ok (min n 1000001) else Err (fault.BadItem at)

-- the schedule, where these groups are open, the innermost first, whether anything stands in that, the steps so far,
-- and the pieces to come
abbrev pub goes : List (List ℕ) → List Opened → Bool → Option (List ℕ) → List Piece → Result (List ℕ) ScheduleFault
goes names os filled s [] = finished os s
goes names os filled s (Gap ∷ ps) = goes names os filled s ps
goes names os filled s (Word at bytes ∷ ps) =
    or_fault (capped_item names at bytes (opens ps)) (λ t. goes names os true (more_steps s t.0 t.1) ps)
    (λ e. first_fault (places os) 0 e ps)
goes names os filled s (Opens at ∷ ps) =
    if nat_lt (length os) 8 then goes names (record { at = at; from = kept_len s } ∷ os) false s ps
    else Err (first_fault (places os) 0 (fault.BadItem at) (Opens at ∷ ps))
goes names [] filled s (Closes at after ∷ ps) = Err (fault.BadItem at)
goes names (o ∷ os) filled s (Closes at after ∷ ps) =
    or_fault (group_count filled o.at (group_times after (opens ps))) (λ n. goes names os true (again s o.from n) ps)
    (λ e. first_fault (places os) 0 e ps)

abbrev pub going : List (List ℕ) → Reader → List Piece → Result (List ℕ) ScheduleFault
going names r ps = goes names (reverse r.open_groups.items) r.filled (so_far r.fits r.schedule) ps

-- A reader has passed n bytes of a text, or has found what the whole answers.
abbrev pub Passes : List (List ℕ) → Reader → Reader → ℕ → List ℕ → Result ℕ ScheduleFault → Type 0
Passes names old new at text (Ok n) =
    (going names new (pieces (at + n) (drop n text)) ≡ going names old (pieces at text)) × (0 < n) × (n ≤ length text)
Passes names old new at text (Err e) = Fails e (going names old (pieces at text))
