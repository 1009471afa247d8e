-- The steps of items, and what a cap on their counts changes: nothing.
use Rattle.ls_events.specs.Limits.{most_steps}
use Rattle.std.proofs.Common.{◌≡◌, ◌∙◌, inl, inr, ◌+◌, ◌<◌, ◌≤◌, ℕ, zero, suc, List, [], ◌∷◌, ◌++◌, length, map, min}
use Rattle.std.proofs.Common.{refl, sym, ap, append_assoc, append-nil, arith, Option, Some, None, Result, Ok, Err}
use Rattle.std.specs.List.{range_with_len}
use Rattle.std.proofs.lemmas.Bool.{cases_lt, le-ltb, lt-ltb}
use Rattle.std.proofs.lemmas.List.{length-append}
use Rattle.ls_schedule.specs.declared.fault.ScheduleFault.{ScheduleFault}
use Rattle.ls_schedule.specs.declared.fault.ScheduleFault.TheVariants as fault
use Rattle.ls_schedule.specs.Answers.{capped, capped_schedule, more_steps}
use Rattle.ls_items.specs.Items.{Item, items}
use Rattle.ls_schedule.specs.Pieces.{pieces, second_version}
use Rattle.ls_schedule.specs.Reading.{Turns, by_version, each, plain_schedule, repeated, schedule_of, steps_of}
use Rattle.ls_schedule.specs.Reading.{turns_of, within, ◌>>=◌}

-- ---- one more turn, and too many

pub longer : (m n : ℕ) (ts : List ℕ) → m ≤ n → length (repeated m ts) ≤ length (repeated n ts)
longer zero n ts h = omega arith
longer (suc m) zero ts h = absurd (omega arith)
longer (suc m) (suc n) ts h = omega (
  arith,
  longer m n ts (omega arith),
  length-append ts (repeated m ts),
  length-append ts (repeated n ts),
)

pub repeated_none : (n : ℕ) → repeated n [] ≡ []
repeated_none zero = refl
repeated_none (suc n) = repeated_none n

repeated_more : (n : ℕ) (ts : List ℕ) → repeated (suc n) ts ≡ repeated n ts ++ ts
repeated_more zero ts = append-nil ts
repeated_more (suc n) ts = ap (λ xs. ts ++ xs) (repeated_more n ts) ∙ sym (append_assoc ts (repeated n ts) ts)

-- one more turn at the end
pub appended : (base ts now new : List ℕ) (n : ℕ) →
    now ≡ base ++ repeated n ts →
    new ≡ now ++ ts →
    new ≡ base ++ repeated (n + 1) ts
appended base ts now new n h e =
    let one : suc n ≡ n + 1 = omega arith in
    e ∙ ap (λ xs. xs ++ ts) h ∙ append_assoc base (repeated n ts) ts ∙ ap (λ xs. base ++ xs) (sym (repeated_more n ts))
    ∙ ap (λ k. base ++ repeated k ts) one

-- and then there are too many, if there are now
pub too_many : (base ts new : List ℕ) (n count : ℕ) →
    new ≡ base ++ repeated (n + 1) ts →
    n < count →
    most_steps < length new →
    most_steps < length (base ++ repeated count ts)
too_many base ts new n count e lt over =
    omega (
      arith,
      ap length e,
      length-append base (repeated (n + 1) ts),
      length-append base (repeated count ts),
      longer (n + 1) count ts (omega arith),
    )

pub no_threads : (base ts : List ℕ) (n : ℕ) → length ts ≡ 0 → base ≡ base ++ repeated n ts
no_threads base [] n e = sym (ap (λ xs. base ++ xs) (repeated_none n) ∙ append-nil base)
no_threads base (t ∷ ts) n e = absurd (omega arith)

pub at_least : (n t : ℕ) (ts : List ℕ) → n ≤ length (repeated n (t ∷ ts))
at_least zero t ts = omega arith
at_least (suc n) t ts = omega (arith, at_least n t ts, length-append (t ∷ ts) (repeated n (t ∷ ts)))

-- where the capped count gives at most a million steps, it is the count, or there is no step
pub cap_is : (p : Turns) →
    length (repeated (min p.1 1000001) p.0) ≤ most_steps →
    repeated (min p.1 1000001) p.0 ≡ repeated p.1 p.0
cap_is ([], n) h = repeated_none (min n 1000001) ∙ sym (repeated_none n)
cap_is (t ∷ ts, n) h = ap (λ k. repeated k (t ∷ ts)) (omega (arith, at_least (min n 1000001) t ts))

caps : List Turns → List Turns
caps = map capped

pub steps_capped : (ps : List Turns) →
    length (steps_of (map capped ps)) ≤ most_steps →
    steps_of (map capped ps) ≡ steps_of ps
steps_capped [] h = refl
steps_capped (p ∷ ps) h =
    let l = length-append (repeated (min p.1 1000001) p.0) (steps_of (map capped ps)) in
    rw (cap_is p (omega arith), steps_capped ps (omega arith)) refl

pub steps_shorter : (ps : List Turns) → length (steps_of (map capped ps)) ≤ length (steps_of ps)
steps_shorter [] = omega arith
steps_shorter (p ∷ ps) = omega (
  arith,
  steps_shorter ps,
  longer (min p.1 1000001) p.1 p.0 (omega arith),
  length-append (repeated (min p.1 1000001) p.0) (steps_of (map capped ps)),
  length-append (repeated p.1 p.0) (steps_of ps),
)

pub within_capped : (ps : List Turns) → within (steps_of (map capped ps)) ≡ within (steps_of ps)
within_capped ps = elim (cases_lt most_steps (length (steps_of (map capped ps)))) [
  | inl over ↦ rw (lt-ltb _ _ over, lt-ltb most_steps (length (steps_of ps)) (omega (arith, steps_shorter ps))) refl
  | inr fits ↦ ap within (steps_capped ps fits)
]

both : (r : Result Turns ScheduleFault) (s : Result (List Turns) ScheduleFault)
    → ((r >>= λ p. Ok (capped p)) >>= λ y. (s >>= λ ps. Ok (map capped ps)) >>= λ ys. Ok (y ∷ ys)) ≡
    ((r >>= λ y. s >>= λ ys. Ok (y ∷ ys)) >>= λ ps. Ok (map capped ps))
both (Ok p) (Ok ps) = refl
both (Ok p) (Err e) = refl
both (Err e) s = refl

-- reading with the cap is reading, and then the cap
pub each_capped : (f : Item → Result Turns ScheduleFault) (is : List Item) →
    each (λ i. f i >>= λ p. Ok (capped p)) is ≡ (each f is >>= λ ps. Ok (map capped ps))
each_capped f [] = refl
each_capped f (i ∷ is) =
    ap (λ s. (f i >>= λ p. Ok (capped p)) >>= λ y. s >>= λ ys. Ok (y ∷ ys)) (each_capped f is) ∙ both (f i) (each f is)

range_push : (a n : ℕ) → range_with_len a (suc n) ≡ range_with_len a n ++ (a + n) ∷ []
range_push a zero = ap (λ x. x ∷ []) (omega-zero a)
  where
    omega-zero : (b : ℕ) → b ≡ b + 0
    omega-zero b = omega arith
range_push a (suc n) =
    let place : a + 1 + n ≡ a + suc n = omega arith in
    ap (λ xs. a ∷ xs) (range_push (a + 1) n) ∙ ap (λ x. a ∷ range_with_len (a + 1) n ++ x ∷ []) place

pub range_more : (n : ℕ) → range_with_len 1 (n + 1) ≡ range_with_len 1 n ++ (n + 1) ∷ []
range_more n =
    let e : n + 1 ≡ suc n = omega arith in
    let f : 1 + n ≡ n + 1 = omega arith in
    ap (range_with_len 1) e ∙ range_push 1 n ∙ ap (λ x. range_with_len 1 n ++ x ∷ []) f

-- ---- the steps so far

-- the whole, where these steps are read and the items still to be read answer so
abbrev pub goes_to : Option (List ℕ) → Result (List Turns) ScheduleFault → Result (List ℕ) ScheduleFault
goes_to None read = read >>= λ ps. Err fault.TooManySteps
goes_to (Some steps) read = read >>= λ ps. within (steps ++ steps_of ps)

abbrev behind : Turns → Result (List Turns) ScheduleFault → Result (List Turns) ScheduleFault
behind p read = read >>= λ ps. Ok (p ∷ ps)

none_more : (p : Turns) (read : Result (List Turns) ScheduleFault) → goes_to None read ≡ goes_to None (behind p read)
none_more p (Ok ps) = refl
none_more p (Err e) = refl

over_more : (steps : List ℕ) (p : Turns) (read : Result (List Turns) ScheduleFault) →
    most_steps < length (steps ++ repeated p.1 p.0)
    → goes_to None read ≡ goes_to (Some steps) (behind p read)
over_more steps p (Err e) over = refl
over_more steps p (Ok ps) over =
    let split = append_assoc steps (repeated p.1 p.0) (steps_of ps) in
    let big : most_steps < length (steps ++ (repeated p.1 p.0 ++ steps_of ps)) =
    omega (arith, over, ap length split, length-append (steps ++ repeated p.1 p.0) (steps_of ps)) in
    rw (lt-ltb _ _ big) refl

fits_more : (steps : List ℕ) (p : Turns) (read : Result (List Turns) ScheduleFault)
    → goes_to (Some (steps ++ repeated p.1 p.0)) read ≡ goes_to (Some steps) (behind p read)
fits_more steps p (Err e) = refl
fits_more steps p (Ok ps) = ap within (append_assoc steps (repeated p.1 p.0) (steps_of ps))

step_more : (so_far : Option (List ℕ)) (p : Turns) (read : Result (List Turns) ScheduleFault)
    → goes_to (more_steps so_far p.0 p.1) read ≡ goes_to so_far (behind p read)
step_more None p read = none_more p read
step_more (Some steps) p read = elim (cases_lt most_steps (length (steps ++ repeated p.1 p.0))) [
  | inl over ↦ rw (lt-ltb _ _ over) (over_more steps p read over)
  | inr fits ↦ rw (le-ltb _ _ fits) (fits_more steps p read)
]

-- an item that is read
pub goes_on_to : (f : Item → Result Turns ScheduleFault) (so_far now : Option (List ℕ)) (i : Item) (p : Turns)
    (more : List Item) (all : Result (List ℕ) ScheduleFault)
    → f i ≡ Ok p → now ≡ more_steps so_far p.0 p.1 → goes_to so_far (each f (i ∷ more)) ≡ all →
    goes_to now (each f more) ≡ all
goes_on_to f so_far now i p more all e n h =
    ap (λ s. goes_to s (each f more)) n ∙ step_more so_far p (each f more)
    ∙ ap (λ r. goes_to so_far (r >>= λ y. each f more >>= λ ys. Ok (y ∷ ys))) (sym e) ∙ h

-- an item that is refused
pub ends_with : (f : Item → Result Turns ScheduleFault) (so_far : Option (List ℕ)) (i : Item) (d : ScheduleFault)
    (more : List Item) (all : Result (List ℕ) ScheduleFault)
    → f i ≡ Err d → goes_to so_far (each f (i ∷ more)) ≡ all → all ≡ Err d
ends_with f None i d more all e h = sym h ∙ ap (λ r. goes_to None (r >>= λ y. each f more >>= λ ys. Ok (y ∷ ys))) e
ends_with f (Some steps) i d more all e h = sym h ∙ ap (λ r.
    goes_to (Some steps) (r >>= λ y. each f more >>= λ ys. Ok (y ∷ ys))) e

-- no item is left
pub all_read : (steps : List ℕ) → length steps ≤ most_steps → goes_to (Some steps) (Ok []) ≡ Ok steps
all_read steps few = ap within (append-nil steps) ∙ rw (le-ltb _ _ few) refl

-- ---- the whole

with_cap : (r : Result (List Turns) ScheduleFault) →
    (r >>= λ ps. within (steps_of ps)) ≡ ((r >>= λ ps. Ok (map capped ps)) >>= λ ps. within (steps_of ps))
with_cap (Ok ps) = sym (within_capped ps)
with_cap (Err e) = refl

-- the schedule by what is kept of the items
pub whole : (names : List (List ℕ)) (text : List ℕ) → plain_schedule names text ≡ capped_schedule names text
whole names text =
    with_cap (each (turns_of names) (items 0 text)) ∙ ap (λ r. r >>= λ ps. within (steps_of ps))
    (sym (each_capped (turns_of names) (items 0 text)))

-- a text whose first item isn't `@2`
pub plain_read : (names : List (List ℕ)) (text : List ℕ) →
    None ≡ second_version (pieces 0 text) →
    capped_schedule names text ≡ schedule_of names text
plain_read names text none = sym (whole names text) ∙ ap (by_version names text) none
