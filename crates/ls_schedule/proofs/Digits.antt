-- Digits, and faults of items.
use Rattle.std.proofs.Common.{◌≡◌, ◌+◌, ◌*◌, ◌-◌, ◌<◌, ◌≤◌, ℕ, true, List, length, take, min, arith, Result, Err}
use Rattle.std.proofs.Common.{get_or}
use Rattle.std.specs.List.{list_all}
use Rattle.std.specs.Char.{digit_value}
use Rattle.std.specs.Str.Parse.{digits_value}
use Rattle.std.proofs.lemmas.Int.Digits.{digits_value_more}
use Rattle.std.proofs.lemmas.Grind.{common_steps}
use Rattle.ls_schedule.specs.declared.fault.ScheduleFault.{ScheduleFault}
use Rattle.ls_schedule.specs.declared.fault.ScheduleFault.TheVariants as fault
use Rattle.ls_schedule.specs.Answers.{Fails}
use Rattle.ls_lexer.specs.Characters.{is_digit}

pub digit_range : (b : ℕ) → is_digit b ≡ true → (48 ≤ b) × (b < 58)
digit_range b e = (grind (arith, common_steps), grind (arith, common_steps))

pub digit_at : (ds : List ℕ) (i : ℕ) → list_all is_digit ds ≡ true → i < length ds → is_digit (get_or ds i 0) ≡ true
digit_at ds i e lt = grind (arith, common_steps)

pub value_more : (ds : List ℕ) (i n : ℕ) →
    list_all is_digit ds ≡ true →
    i < length ds →
    n ≡ min (digits_value 10 (take i ds)) 1000001
    → min (n * 10 + (get_or ds i 0 - 48)) 1000001 ≡ min (digits_value 10 (take (i + 1) ds)) 1000001
value_more ds i n e lt h =
    let r = digit_range (get_or ds i 0) (digit_at ds i e lt) in
    let more = digits_value_more 10 ds i lt in
    let is : digit_value (get_or ds i 0) ≡ get_or ds i 0 - 48 = grind (arith, common_steps) in
    omega arith

-- what a fault is, it is also where memory may run out
pub fails_of : {X : Type 0} (e : ScheduleFault) (all : Result X ScheduleFault) → all ≡ Err e → Fails e all
fails_of fault.Memory all h = tt
fails_of (fault.BadItem at) all h = h
fails_of (fault.UnknownThread at) all h = h
fails_of fault.TooManySteps all h = h
