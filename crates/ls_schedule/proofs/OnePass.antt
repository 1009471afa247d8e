-- One pass over a text gives its schedule.
use Rattle.ls_events.specs.Limits.{most_steps}
use Rattle.std.proofs.Common.{◌≡◌, ◌∙◌, inl, inr, ◌-◌, ◌<◌, ◌≤◌, ℕ, zero, suc, Bool, true, false, cond, List, [], ◌∷◌}
use Rattle.std.proofs.Common.{◌++◌, length, drop, min, take, Option, Some, None, Result, Ok, Err, refl, sym, ap, arith}
use Rattle.std.proofs.Common.{append_assoc, append-nil}
use Rattle.std.specs.Prelude.{◌==◌, ◌&&◌, not, nat_lt, if◌then◌else◌}
use Rattle.std.specs.Char.{digit_value}
use Rattle.std.specs.List.{list_all}
use Rattle.std.specs.Str.Parse.{digits_value}
use Rattle.std.proofs.lemmas.Bool.{and_parts, cases_Bool, cases_lt, le-ltb, lt-ltb, true≢false}
use Rattle.std.proofs.lemmas.Grind.{common_steps}
use Rattle.std.proofs.lemmas.List.{drop_at, length-append}
use Rattle.std.proofs.lemmas.Str.Parse.{digits_value-take-le}
use Rattle.ls_schedule.specs.declared.fault.ScheduleFault.{ScheduleFault}
use Rattle.ls_schedule.specs.declared.fault.ScheduleFault.TheVariants as fault
use Rattle.ls_schedule.specs.declared.groups.Opened.{Opened}
use Rattle.ls_schedule.specs.Answers.{capped, more_steps, so_far}
use Rattle.ls_schedule.specs.Pieces.{Piece, Gap, Word, Opens, Closes, opens}
use Rattle.ls_lexer.specs.Characters.{is_digit}
use Rattle.ls_schedule.specs.Reading.{Content, Turns, closed, count_of, followed_by, group_schedule, group_steps}
use Rattle.ls_schedule.specs.Reading.{group_times, is_count, item_turns, nothing, repeated, steps_in, within}
use Rattle.ls_schedule.specs.Reading.{◌>>=◌}
use Rattle.ls_schedule.specs.Passing.{again, finish, first_fault, goes, group_count, kept, kept_len, or_fault, places}
use Rattle.ls_schedule.specs.Passing.{unclosed}
use Rattle.ls_schedule.proofs.Digits.{digit_range}
use Rattle.ls_schedule.proofs.Steps.{at_least, cap_is, longer, repeated_none}
use Rattle.ls_schedule.proofs.Spoilt.{Level, broken, content_of, ended_broken, group_of, groups_length, groups_of}
use Rattle.ls_schedule.proofs.Spoilt.{outside_all, places_of, spoilt}

-- ---- the steps that are kept

none_kept : (all : List ℕ) → most_steps < length all → kept all ≡ None
none_kept all over = ap (λ b. so_far (not b) all) (lt-ltb most_steps (length all) over)

all_kept : (all : List ℕ) → length all ≤ most_steps → kept all ≡ Some all
all_kept all few = ap (λ b. so_far (not b) all) (le-ltb most_steps (length all) few)

-- of a count and a greater one, where both are too many
both_over : (all ts : List ℕ) (k n : ℕ) →
    k ≤ n →
    most_steps < length (all ++ repeated k ts) →
    kept (all ++ repeated k ts) ≡ kept (all ++ repeated n ts)
both_over all ts k n le over =
    let more : most_steps < length (all ++ repeated n ts) = omega
    (arith, over, longer k n ts le, length-append all (repeated k ts), length-append all (repeated n ts)) in
    none_kept (all ++ repeated k ts) over ∙ sym (none_kept (all ++ repeated n ts) more)

more_kept : (all ts : List ℕ) (n : ℕ) → more_steps (kept all) ts (min n 1000001) ≡ kept (all ++ repeated n ts)
more_kept all ts n =
    elim (cases_lt most_steps (length all)) [
      | inl over ↦
          let more : most_steps < length (all ++ repeated n ts) = omega (arith, over, length-append all (repeated n ts))
          in
          ap (λ s. more_steps s ts (min n 1000001)) (none_kept all over) ∙ sym (none_kept (all ++ repeated n ts) more)
      | inr few ↦ ap (λ s. more_steps s ts (min n 1000001)) (all_kept all few) ∙ by_cap
    ]
  where
    by_cap : kept (all ++ repeated (min n 1000001) ts) ≡ kept (all ++ repeated n ts)
    by_cap =
        elim (cases_lt most_steps (length (repeated (min n 1000001) ts))) [
          | inl over ↦ both_over all ts (min n 1000001) n (omega arith)
              (omega (arith, over, length-append all (repeated (min n 1000001) ts)))
          | inr few ↦ ap (λ l. kept (all ++ l)) (cap_is (ts, n) few)
        ]

-- a group that goes once more than m times
once_more : (before now : List ℕ) (m : ℕ) →
    kept ((before ++ now) ++ repeated (min (suc m) 1000001 - 1) now) ≡ kept (before ++ repeated (suc m) now)
once_more before [] m =
    ap (λ l. kept ((before ++ []) ++ l)) (repeated_none (min (suc m) 1000001 - 1)) ∙ ap kept (append-nil (before ++ []))
    ∙ ap (λ l. kept (before ++ l)) (sym (repeated_none (suc m)))
once_more before (t ∷ ts) m =
    let now : List ℕ = t ∷ ts in
    let whole : kept ((before ++ now) ++ repeated m now) ≡ kept (before ++ repeated (suc m) now) = ap kept
    (append_assoc before now (repeated m now)) in
    elim (cases_lt most_steps m) [
      | inl over ↦
          let k : ℕ = min (suc m) 1000001 - 1 in
          let is : k ≡ most_steps = omega (arith, over) in
          let big : most_steps < length ((before ++ now) ++ repeated k now) =
          omega (arith, is, at_least k t ts, length-append before now, length-append (before ++ now) (repeated k now))
          in
          both_over (before ++ now) now k m (omega (arith, over, is)) big ∙ whole
      | inr few ↦
          let k : min (suc m) 1000001 - 1 ≡ m = omega (arith, few) in
          ap (λ n. kept ((before ++ now) ++ repeated n now)) k ∙ whole
    ]

again_kept : (before now : List ℕ) (n : ℕ) →
    0 < n →
    again (kept (before ++ now)) (kept_len (kept before)) (min n 1000001) ≡ kept (before ++ repeated n now)
again_kept before now zero some = absurd (omega arith)
again_kept before now (suc m) some =
    elim (cases_lt most_steps (length (before ++ now))) [
      | inl over ↦
          let more : most_steps < length (before ++ repeated (suc m) now) =
          omega (
            arith,
            over,
            length-append before now,
            length-append before (repeated (suc m) now),
            length-append now (repeated m now),
          ) in
          ap (λ s. again s (kept_len (kept before)) (min (suc m) 1000001)) (none_kept (before ++ now) over) ∙
          sym (none_kept (before ++ repeated (suc m) now) more)
      | inr few ↦
          let front : length before ≤ most_steps = omega (arith, few, length-append before now) in
          ap (λ s. again s (kept_len (kept before)) (min (suc m) 1000001)) (all_kept (before ++ now) few)
          ∙ ap (λ s. kept ((before ++ now) ++ repeated (min (suc m) 1000001 - 1) (drop (kept_len s) (before ++ now))))
          (all_kept before front)
          ∙ ap (λ l. kept ((before ++ now) ++ repeated (min (suc m) 1000001 - 1) l))
          (drop_at before now (length before) refl)
          ∙ once_more before now m
    ]

-- ---- a group goes at least once

first_digit : (d : ℕ) → is_digit d ≡ true → not (d == 48) ≡ true → 0 < digit_value d
first_digit d digit h =
    let r = digit_range d digit in
    let some : 48 < d =
    elim (cases_lt 48 d) [
      | inl lt ↦ lt
      | inr le ↦ let is : d ≡ 48 = omega (arith, r) in absurd (true≢false (sym h ∙ ap (λ x. not (x == 48)) is))
    ] in
    let is : digit_value d ≡ d - 48 = grind (arith, common_steps) in
    omega (arith, is, some)

pub count_positive : (ds : List ℕ) (n : ℕ) → count_of ds ≡ Some n → 0 < n
count_positive [] n h = let f : ⊥ = cc in absurd f
count_positive (d ∷ ds) n h =
    elim (cases_Bool (is_count (d ∷ ds))) [
      | inl e ↦
          let p = and_parts (not (d == 48)) (list_all is_digit (d ∷ ds)) e in
          let q = and_parts (is_digit d) (list_all is_digit ds) p.1 in
          let value : Some (digits_value 10 (d ∷ ds)) ≡ Some n = sym
          (ap (λ b. cond b (Some (digits_value 10 (d ∷ ds))) None) e) ∙ h in
          let is : digits_value 10 (d ∷ ds) ≡ n = cc in
          let one : digits_value 10 (take 1 (d ∷ ds)) ≤ digits_value 10 (d ∷ ds) = digits_value-take-le 10 (d ∷ ds) 1
          (omega arith) in
          omega (arith, first_digit d q.0 p.0, one, is)
      | inr e ↦
          let none : None ≡ Some n = sym (ap (λ b. cond b (Some (digits_value 10 (d ∷ ds))) None) e) ∙ h in
          let f : ⊥ = cc in absurd f
    ]

pub times_positive : (after : List ℕ) (joined : Bool) (n : ℕ) → group_times after joined ≡ Some n → 0 < n
times_positive after true n h = let f : ⊥ = cc in absurd f
times_positive [] false n h = let is : 1 ≡ n = cc in omega (arith, is)
times_positive (b ∷ bs) false n h =
    elim (cases_Bool (b == 42)) [
      | inl e ↦ count_positive bs n (sym (ap (λ t. cond t (count_of bs) None) e) ∙ h)
      | inr e ↦ let none : None ≡ Some n = sym (ap (λ t. cond t (count_of bs) None) e) ∙ h in let f : ⊥ = cc in absurd f
    ]

-- ---- the groups that are open, as the pass keeps them

-- all steps before the innermost of them
abbrev pub base : List Level → List ℕ
base [] = []
base (l ∷ ls) = base ls ++ l.steps

abbrev pub opened : List Level → List Opened
opened [] = []
opened (l ∷ ls) = record { at = l.at; from = kept_len (kept (base ls ++ l.steps)) } ∷ opened ls

opened_places : (ls : List Level) → places (opened ls) ≡ places_of ls
opened_places [] = refl
opened_places (l ∷ ls) = ap (λ xs. l.at ∷ xs) (opened_places ls)

opened_length : (ls : List Level) → length (opened ls) ≡ length ls
opened_length [] = refl
opened_length (l ∷ ls) = ap (λ n. suc n) (opened_length ls)

finish_kept : (steps : List ℕ) → finish (kept steps) ≡ within steps
finish_kept steps = by_test (nat_lt most_steps (length steps))
  where
    by_test : (b : Bool) → finish (so_far (not b) steps) ≡ cond b (Err fault.TooManySteps) (Ok steps)
    by_test true = refl
    by_test false = refl

-- ---- the pass

-- a fault ends it
stopped : (names : List (List ℕ)) (ls : List Level) (c : Content) (e : ScheduleFault) (ps : List Piece) →
    length ls ≤ 8 →
    c ≡ broken e
    → Err (first_fault (places (opened ls)) 0 e ps) ≡ (steps_in names (groups_of ls) c ps >>= within)
stopped names ls c e ps few h =
    ap (λ xs. Err (first_fault xs 0 e ps)) (opened_places ls) ∙
    sym (ap (λ x. x >>= within) (spoilt names ls [] c e ps few h))

-- what the pass gives of these pieces in any state
abbrev Follows : List (List ℕ) → List Level → List Piece → Type 0
Follows names ls ps = (filled : Bool) (now : List ℕ)
    → goes names (opened ls) filled (kept (base ls ++ now)) ps ≡
    (steps_in names (groups_of ls) (content_of filled now) ps >>= within)

by_item : (names : List (List ℕ)) (ls : List Level) (filled : Bool) (now : List ℕ) (ps : List Piece)
    (x : Result Turns ScheduleFault) →
    length ls ≤ 8 →
    Follows names ls ps
    → or_fault (x >>= λ p. Ok (capped p)) (λ t. goes names (opened ls) true (more_steps (kept (base ls ++ now)) t.0 t.1)
    ps) (λ e. first_fault (places (opened ls)) 0 e ps)
    ≡ (steps_in names (groups_of ls) (followed_by (content_of filled now) (x >>= λ p. Ok (repeated p.1 p.0))) ps >>=
    within)
by_item names ls filled now ps (Ok p) few more =
    ap (λ s. goes names (opened ls) true s ps) (more_kept (base ls ++ now) p.0 p.1 ∙
    ap kept (append_assoc (base ls) now (repeated p.1 p.0)))
    ∙ more true (now ++ repeated p.1 p.0)
by_item names ls filled now ps (Err e) few more = stopped names ls (broken e) e ps few refl

-- a ninth group has a fault at its place, however it ends
too_deep : (at n : ℕ) (filled : Bool) (now : List ℕ) →
    nat_lt n 8 ≡ false →
    (f : Bool) (t : Option ℕ) (r : Result (List ℕ) ScheduleFault)
    → (followed_by (content_of filled now) (group_steps at (nat_lt n 8 && f) t r)).steps ≡ Err (fault.BadItem at)
too_deep at n filled now full f None r = refl
too_deep at n filled now full f (Some k) r =
    ap (λ b. (followed_by (content_of filled now) (if b && f then (r >>= λ ts. Ok (repeated k ts)) else
    Err (fault.BadItem at))).steps) full

abbrev level : ℕ → Bool → List ℕ → Level
level at filled now = record { at = at; filled = filled; steps = now }

abbrev Opening : List (List ℕ) → List Level → Bool → List ℕ → ℕ → List Piece → Type 0
Opening names ls filled now at ps =
    goes names (opened ls) filled (kept (base ls ++ now)) (Opens at ∷ ps) ≡
    (steps_in names (group_of (level at filled now) ∷ groups_of ls) nothing ps >>= within)

ninth : (names : List (List ℕ)) (ls : List Level) (filled : Bool) (now : List ℕ) (at : ℕ) (ps : List Piece) →
    length ls ≤ 8 →
    8 ≤ length ls →
    Opening names ls filled now at ps
ninth names ls filled now at ps few ge =
    let test : nat_lt (length (opened ls)) 8 ≡ false = le-ltb (length (opened ls)) 8
    (omega (arith, ge, opened_length ls)) in
    let outer : nat_lt (length (groups_of ls)) 8 ≡ false = le-ltb (length (groups_of ls)) 8
    (omega (arith, ge, groups_length ls)) in
    let refused : Result (List ℕ) ScheduleFault = Err (first_fault (places (opened ls)) 0 (fault.BadItem at)
    (Opens at ∷ ps)) in
    ap (λ b. if b then goes names (opened (level at filled now ∷ ls)) false (kept (base ls ++ now)) ps else refused)
    test
    ∙ ap (λ xs. Err (first_fault xs 1 (fault.BadItem at) ps)) (opened_places ls)
    ∙ sym (ap (λ x. x >>= within) (spoilt names ls (group_of (level at filled now) ∷ []) nothing (fault.BadItem at) ps
    few (too_deep at (length (groups_of ls)) filled now outer)))

by_opening : (names : List (List ℕ)) (ls : List Level) (filled : Bool) (now : List ℕ) (at : ℕ) (ps : List Piece) →
    length ls ≤ 8
    → (length ls < 8 → Follows names (level at filled now ∷ ls) ps) → Opening names ls filled now at ps
by_opening names ls filled now at ps few more =
    elim (cases_lt (length ls) 8) [
      | inl lt ↦
          let test : nat_lt (length (opened ls)) 8 ≡ true = lt-ltb (length (opened ls)) 8
          (omega (arith, lt, opened_length ls)) in
          let refused : Result (List ℕ) ScheduleFault = Err (first_fault (places (opened ls)) 0 (fault.BadItem at)
          (Opens at ∷ ps)) in
          ap (λ b. if b then goes names (opened (level at filled now ∷ ls)) false (kept (base ls ++ now)) ps else
          refused) test
          ∙ ap (λ s. goes names (opened (level at filled now ∷ ls)) false (kept s) ps)
          (sym (append-nil (base ls ++ now))) ∙ more lt false []
      | inr ge ↦ ninth names ls filled now at ps few ge
    ]

by_closing : (names : List (List ℕ)) (l : Level) (ls : List Level) (filled : Bool) (now : List ℕ) (ps : List Piece)
    (t : Option ℕ) →
    length ls < 8 →
    ((n : ℕ) → t ≡ Some n → 0 < n)
    → Follows names ls ps
    → or_fault (group_count filled l.at t) (λ n. goes names (opened ls) true
    (again (kept ((base ls ++ l.steps) ++ now)) (kept_len (kept (base ls ++ l.steps))) n) ps)
    (λ e. first_fault (places (opened ls)) 0 e ps)
    ≡ (steps_in names (groups_of ls) (closed (group_of l) (groups_of ls) (content_of filled now) t) ps >>= within)
by_closing names l ls filled now ps None few some more = stopped names ls (broken (fault.BadItem l.at))
    (fault.BadItem l.at) ps (omega (arith, few)) refl
by_closing names l ls false now ps (Some n) few some more =
    let test : nat_lt (length (groups_of ls)) 8 ≡ true = lt-ltb (length (groups_of ls)) 8
    (omega (arith, few, groups_length ls)) in
    stopped names ls (closed (group_of l) (groups_of ls) (content_of false now) (Some n)) (fault.BadItem l.at) ps
    (omega (arith, few))
    (ap (λ b. followed_by (content_of l.filled l.steps) (if b && false then Ok (repeated n now) else
    Err (fault.BadItem l.at))) test)
by_closing names l ls true now ps (Some n) few some more =
    let test : nat_lt (length (groups_of ls)) 8 ≡ true = lt-ltb (length (groups_of ls)) 8
    (omega (arith, few, groups_length ls)) in
    let B : List ℕ = base ls ++ l.steps in
    ap (λ s. goes names (opened ls) true s ps) (again_kept B now n (some n refl) ∙
    ap kept (append_assoc (base ls) l.steps (repeated n now)))
    ∙ more true (l.steps ++ repeated n now)
    ∙ sym (ap (λ b. steps_in names (groups_of ls) (followed_by (content_of l.filled l.steps)
    (if b && true then Ok (repeated n now) else Err (fault.BadItem l.at))) ps >>= within) test)

pub follows : (names : List (List ℕ)) (ls : List Level) (ps : List Piece) → length ls ≤ 8 → Follows names ls ps
follows names [] [] few filled now = finish_kept now
follows names (l ∷ ls) [] few filled now =
    ap (λ xs. Err (unclosed xs (fault.BadItem l.at))) (opened_places ls) ∙
    sym (ap (λ x. x >>= within) (ended_broken ls (fault.BadItem l.at)))
follows names ls (Gap ∷ ps) few filled now = follows names ls ps few filled now
follows names ls (Word at bytes ∷ ps) few filled now = by_item names ls filled now ps
    (item_turns names at bytes (opens ps)) few (follows names ls ps few)
follows names ls (Opens at ∷ ps) few filled now =
    by_opening names ls filled now at ps few (λ lt. follows names (level at filled now ∷ ls) ps (omega (arith, lt)))
follows names [] (Closes at after ∷ ps) few filled now =
    sym (ap (λ x. x >>= within) (spoilt names [] [] (broken (fault.BadItem at)) (fault.BadItem at) ps few refl) ∙
    ap (λ e. Err e) (outside_all (fault.BadItem at) ps))
follows names (l ∷ ls) (Closes at after ∷ ps) few filled now =
    by_closing names l ls filled now ps (group_times after (opens ps)) (omega (arith, few))
    (λ n. times_positive after (opens ps) n) (follows names ls ps (omega (arith, few)))

-- from the start of the pieces
pub passed : (names : List (List ℕ)) (ps : List Piece) → goes names [] false (Some []) ps ≡ group_schedule names ps
passed names ps = follows names [] ps (omega arith) false []
