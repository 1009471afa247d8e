-- What is noted of calls, as they begin, take effect and end.
use Rattle.std.proofs.Common.{◌≡◌, ◌⊎◌, inl, inr, ℕ, suc, ◌<◌, ◌≤◌, Bool, true, false, not, nat_eq, ◌&&◌}
use Rattle.std.proofs.Common.{if◌then◌else◌, nat_lt, List, [], ◌∷◌, ◌++◌, Option, Some, None, length}
use Rattle.std.proofs.Common.{refl, sym, ap, ◌∙◌, arith}
use Rattle.std.proofs.Math.Path.{fun_ext}
use Rattle.std.proofs.lemmas.Bool.Decides.{nat_tests}
use Rattle.std.specs.List.{filter}
use Rattle.ls_events.specs.declared.event.Event.{Event}
use Rattle.ls_serial.specs.Serial.{IsCall, IsEnd, is_called}
use Rattle.ls_automaton.specs.Automaton.{Status, Statuses, Idle, Open, Took, Pair, with_status}
use Rattle.ls_automaton.specs.Held.{Held, begun, ended, entry_at, is_at, taken}

-- the status that an entry stands for
abbrev pub as_called : Event → Bool → Status
as_called x true = Open x
as_called x false = Took x

abbrev pub as_status : Option Event → Status
as_status None = Idle
as_status (Some x) = as_called x (is_called x.happening)

abbrev pub statuses : List Event → Statuses
statuses pending t n = as_status (entry_at pending t n)

abbrev pub pair_of : Held → Pair ℕ
pair_of p = record { state = p.state; calls = statuses p.pending }

-- ---- tests

pub true_or_false : (b : Bool) → (b ≡ true) ⊎ (b ≡ false)
true_or_false true = inl refl
true_or_false false = inr refl

pub not_both : {b : Bool} → b ≡ true → b ≡ false → ⊥
not_both t f = absurd (apart (sym t ∙ f))
  where
    apart : true ≡ false → ⊥
    apart h = cc

pub and_parts : (a b : Bool) → (a && b) ≡ true → (a ≡ true) × (b ≡ true)
and_parts true b h = (refl, h)
and_parts false b h = absurd (isnt h)
  where
    isnt : false ≡ true → ⊥
    isnt p = cc

pub at_parts : (t n : ℕ) (x : Event) → is_at t n x ≡ true → (t ≡ x.thread) × (n ≡ x.call)
at_parts t n x h =
    let p = and_parts (nat_eq t x.thread) (nat_eq n x.call) h in
    (grind (arith, nat_tests, p.0), grind (arith, nat_tests, p.1))

pub at_same : (t n : ℕ) (x : Event) → t ≡ x.thread → n ≡ x.call → is_at t n x ≡ true
at_same t n x p q =
    let one : nat_eq t x.thread ≡ true = grind (arith, nat_tests, p) in
    let two : nat_eq n x.call ≡ true = grind (arith, nat_tests, q) in
    ap (λ b. b && nat_eq n x.call) one ∙ two

-- one more in front
entry_first : (x : Event) (xs : List Event) (t n : ℕ) → is_at t n x ≡ true → entry_at (x ∷ xs) t n ≡ Some x
entry_first x xs t n h = ap (λ b. if b then Some x else entry_at xs t n) h

entry_later : (x : Event) (xs : List Event) (t n : ℕ) → is_at t n x ≡ false → entry_at (x ∷ xs) t n ≡ entry_at xs t n
entry_later x xs t n h = ap (λ b. if b then Some x else entry_at xs t n) h

-- what is found has these numbers
pub found_at : (xs : List Event) (t n : ℕ) (x : Event) → entry_at xs t n ≡ Some x → (t ≡ x.thread) × (n ≡ x.call)
found_at [] t n x is = absurd (nothing is)
  where
    nothing : None ≡ Some x → ⊥
    nothing h = cc
found_at (y ∷ xs) t n x is = by_test (found_at xs t n x) (true_or_false (is_at t n y))
  where
    some_is : Some y ≡ Some x → y ≡ x
    some_is h = cc

    by_test : (entry_at xs t n ≡ Some x → (t ≡ x.thread) × (n ≡ x.call)) →
        (is_at t n y ≡ true) ⊎ (is_at t n y ≡ false) → (t ≡ x.thread) × (n ≡ x.call)
    by_test more (inl it) =
        let same : y ≡ x = some_is (sym (entry_first y xs t n it) ∙ is) in
        at_parts t n x (ap (is_at t n) (sym same) ∙ it)
    by_test more (inr isnt) = more (sym (entry_later y xs t n isnt) ∙ is)

-- ---- a status of one call is changed

abbrev pub changed : (ℕ → ℕ → Option Event) → Event → Option Event → ℕ → ℕ → Option Event
changed entries e x t n = if is_at t n e then x else entries t n

-- what is changed among entries is changed among statuses
pub changed_status : (pending new : List Event) (e : Event) (x : Option Event) →
    ((t n : ℕ) → entry_at new t n ≡ changed (entry_at pending) e x t n) →
    statuses new ≡ with_status (statuses pending) e (as_status x)
changed_status pending new e x is = fun_ext (λ t. fun_ext (λ n. ap as_status (is t n) ∙ by_test t n (is_at t n e)))
  where
    by_test : (t n : ℕ) (b : Bool) → as_status (if b then x else entry_at pending t n)
        ≡ (if b then as_status x else as_status (entry_at pending t n))
    by_test t n true = refl
    by_test t n false = refl

-- ---- a call has ended

pub ended_entries : (e : Event) (xs : List Event) (t n : ℕ) →
    entry_at (ended e xs) t n ≡ changed (entry_at xs) e None t n
ended_entries e [] t n = by_test (is_at t n e)
  where
    by_test : (b : Bool) → entry_at [] t n ≡ (if b then None else entry_at [] t n)
    by_test true = refl
    by_test false = refl
ended_entries e (x ∷ xs) t n = by_same (ended_entries e xs t n) (true_or_false (is_at e.thread e.call x))
  where
    by_same : entry_at (ended e xs) t n ≡ changed (entry_at xs) e None t n →
        (is_at e.thread e.call x ≡ true) ⊎ (is_at e.thread e.call x ≡ false) →
        entry_at (ended e (x ∷ xs)) t n ≡ changed (entry_at (x ∷ xs)) e None t n
    by_same more (inl same) =
        ap (λ b. entry_at (if not b then x ∷ ended e xs else ended e xs) t n) same ∙ more
        ∙ by_key (true_or_false (is_at t n e))
      where
        by_key : (is_at t n e ≡ true) ⊎ (is_at t n e ≡ false) →
            changed (entry_at xs) e None t n ≡ changed (entry_at (x ∷ xs)) e None t n
        by_key (inl it) = ap (λ b. if b then None else entry_at xs t n) it
            ∙ sym (ap (λ b. if b then None else entry_at (x ∷ xs) t n) it)
        by_key (inr isnt) = ap (λ b. if b then None else entry_at xs t n) isnt
            ∙ sym (entry_later x xs t n (other (true_or_false (is_at t n x))))
            ∙ sym (ap (λ b. if b then None else entry_at (x ∷ xs) t n) isnt)
          where
            other : (is_at t n x ≡ true) ⊎ (is_at t n x ≡ false) → is_at t n x ≡ false
            other (inl it) =
                let p = at_parts t n x it in
                let q = at_parts e.thread e.call x same in
                absurd (not_both (at_same t n e (p.0 ∙ sym q.0) (p.1 ∙ sym q.1)) isnt)
            other (inr not_it) = not_it
    by_same more (inr differs) =
        ap (λ b. entry_at (if not b then x ∷ ended e xs else ended e xs) t n) differs
        ∙ by_key (true_or_false (is_at t n x))
      where
        by_key : (is_at t n x ≡ true) ⊎ (is_at t n x ≡ false) →
            entry_at (x ∷ ended e xs) t n ≡ changed (entry_at (x ∷ xs)) e None t n
        by_key (inl it) = entry_first x (ended e xs) t n it ∙ sym (entry_first x xs t n it)
            ∙ sym (ap (λ b. if b then None else entry_at (x ∷ xs) t n) (key (true_or_false (is_at t n e))))
          where
            key : (is_at t n e ≡ true) ⊎ (is_at t n e ≡ false) → is_at t n e ≡ false
            key (inl its) =
                let p = at_parts t n x it in
                let q = at_parts t n e its in
                absurd (not_both (at_same e.thread e.call x (sym q.0 ∙ p.0) (sym q.1 ∙ p.1)) differs)
            key (inr isnt) = isnt
        by_key (inr isnt) = entry_later x (ended e xs) t n isnt ∙ more
            ∙ ap (λ o. if is_at t n e then None else o) (sym (entry_later x xs t n isnt))

-- ---- a call has taken effect

-- if it was noted, its end is noted in place of it
pub taken_entries : (e : Event) (xs : List Event) (t n : ℕ) (y : Event) → entry_at xs e.thread e.call ≡ Some y →
    entry_at (taken e xs) t n ≡ changed (entry_at xs) e (Some e) t n
taken_entries e xs t n y there = by_key (true_or_false (is_at t n e))
  where
    -- of other calls the same is noted
    others : (xs : List Event) → is_at t n e ≡ false → entry_at (taken e xs) t n ≡ entry_at xs t n
    others [] isnt = refl
    others (x ∷ xs) isnt =
        by_same (others xs isnt) (true_or_false (is_at e.thread e.call x)) (true_or_false (is_at t n x))
      where
        by_same : entry_at (taken e xs) t n ≡ entry_at xs t n →
            (is_at e.thread e.call x ≡ true) ⊎ (is_at e.thread e.call x ≡ false) →
            (is_at t n x ≡ true) ⊎ (is_at t n x ≡ false) →
            entry_at (taken e (x ∷ xs)) t n ≡ entry_at (x ∷ xs) t n
        by_same more (inl same) (inl it) =
            let p = at_parts t n x it in
            let q = at_parts e.thread e.call x same in
            absurd (not_both (at_same t n e (p.0 ∙ sym q.0) (p.1 ∙ sym q.1)) isnt)
        by_same more (inl same) (inr differs) =
            ap (λ b. entry_at ((if b then e else x) ∷ taken e xs) t n) same
            ∙ entry_later e (taken e xs) t n isnt ∙ more ∙ sym (entry_later x xs t n differs)
        by_same more (inr other) (inl it) =
            ap (λ b. entry_at ((if b then e else x) ∷ taken e xs) t n) other
            ∙ entry_first x (taken e xs) t n it ∙ sym (entry_first x xs t n it)
        by_same more (inr other) (inr differs) =
            ap (λ b. entry_at ((if b then e else x) ∷ taken e xs) t n) other
            ∙ entry_later x (taken e xs) t n differs ∙ more ∙ sym (entry_later x xs t n differs)

    -- of its own the end
    own : (xs : List Event) → entry_at xs e.thread e.call ≡ Some y → entry_at (taken e xs) e.thread e.call ≡ Some e
    own [] is = absurd (nothing is)
      where
        nothing : None ≡ Some y → ⊥
        nothing h = cc
    own (x ∷ xs) is = by_same (own xs) (true_or_false (is_at e.thread e.call x))
      where
        by_same : (entry_at xs e.thread e.call ≡ Some y → entry_at (taken e xs) e.thread e.call ≡ Some e) →
            (is_at e.thread e.call x ≡ true) ⊎ (is_at e.thread e.call x ≡ false) →
            entry_at (taken e (x ∷ xs)) e.thread e.call ≡ Some e
        by_same more (inl same) =
            ap (λ b. entry_at ((if b then e else x) ∷ taken e xs) e.thread e.call) same
            ∙ entry_first e (taken e xs) e.thread e.call (at_same e.thread e.call e refl refl)
        by_same more (inr other) =
            ap (λ b. entry_at ((if b then e else x) ∷ taken e xs) e.thread e.call) other
            ∙ entry_later x (taken e xs) e.thread e.call other
            ∙ more (sym (entry_later x xs e.thread e.call other) ∙ is)

    by_key : (is_at t n e ≡ true) ⊎ (is_at t n e ≡ false) →
        entry_at (taken e xs) t n ≡ changed (entry_at xs) e (Some e) t n
    by_key (inl it) =
        let p = at_parts t n e it in
        ap (λ u. entry_at (taken e xs) u n) p.0 ∙ ap (entry_at (taken e xs) e.thread) p.1 ∙ own xs there
        ∙ sym (ap (λ b. if b then Some e else entry_at xs t n) it)
    by_key (inr isnt) = others xs isnt ∙ sym (ap (λ b. if b then Some e else entry_at xs t n) isnt)

-- ---- a call has begun

abbrev pub by_thread : (ℕ → Bool) → List Event → List Event
by_thread test xs = filter (λ (x : Event). test x.thread) xs

-- those for which a test of their thread holds
kept_entries : (test : ℕ → Bool) (xs : List Event) (t n : ℕ) → test t ≡ true →
    entry_at (by_thread test xs) t n ≡ entry_at xs t n
kept_entries test [] t n passes = refl
kept_entries test (x ∷ xs) t n passes =
    by_test (kept_entries test xs t n passes) (true_or_false (test x.thread)) (true_or_false (is_at t n x))
  where
    by_test : entry_at (by_thread test xs) t n ≡ entry_at xs t n → (test x.thread ≡ true) ⊎ (test x.thread ≡ false) →
        (is_at t n x ≡ true) ⊎ (is_at t n x ≡ false) →
        entry_at (if test x.thread then x ∷ (by_thread test xs) else (by_thread test xs)) t n ≡ entry_at (x ∷ xs) t n
    by_test more (inl holds) (inl it) =
        ap (λ b. entry_at (if b then x ∷ (by_thread test xs) else (by_thread test xs)) t n) holds
        ∙ entry_first x (by_thread test xs) t n it ∙ sym (entry_first x xs t n it)
    by_test more (inl holds) (inr other) =
        ap (λ b. entry_at (if b then x ∷ (by_thread test xs) else (by_thread test xs)) t n) holds
        ∙ entry_later x (by_thread test xs) t n other ∙ more ∙ sym (entry_later x xs t n other)
    by_test more (inr fails) (inl it) = absurd (not_both (ap test (sym (at_parts t n x it).0) ∙ passes) fails)
    by_test more (inr fails) (inr other) =
        ap (λ b. entry_at (if b then x ∷ (by_thread test xs) else (by_thread test xs)) t n) fails
        ∙ more ∙ sym (entry_later x xs t n other)

gone_entries : (test : ℕ → Bool) (xs : List Event) (t n : ℕ) → test t ≡ false →
    entry_at (by_thread test xs) t n ≡ None
gone_entries test [] t n isnt = refl
gone_entries test (x ∷ xs) t n isnt =
    by_test (gone_entries test xs t n isnt) (true_or_false (test x.thread)) (true_or_false (is_at t n x))
  where
    by_test : entry_at (by_thread test xs) t n ≡ None → (test x.thread ≡ true) ⊎ (test x.thread ≡ false) →
        (is_at t n x ≡ true) ⊎ (is_at t n x ≡ false) →
        entry_at (if test x.thread then x ∷ (by_thread test xs) else (by_thread test xs)) t n ≡ None
    by_test more (inl holds) (inl it) = absurd (not_both holds (ap test (sym (at_parts t n x it).0) ∙ isnt))
    by_test more (inl holds) (inr other) =
        ap (λ b. entry_at (if b then x ∷ (by_thread test xs) else (by_thread test xs)) t n) holds
        ∙ entry_later x (by_thread test xs) t n other ∙ more
    by_test more (inr fails) it =
        ap (λ b. entry_at (if b then x ∷ (by_thread test xs) else (by_thread test xs)) t n) fails ∙ more

-- of two lists, the first may have nothing of it, or all
second_entries : (xs ys : List Event) (t n : ℕ) → entry_at xs t n ≡ None → entry_at (xs ++ ys) t n ≡ entry_at ys t n
second_entries [] ys t n none = refl
second_entries (x ∷ xs) ys t n none = by_test (second_entries xs ys t n) (true_or_false (is_at t n x))
  where
    nothing : Some x ≡ None → ⊥
    nothing h = cc

    by_test : (entry_at xs t n ≡ None → entry_at (xs ++ ys) t n ≡ entry_at ys t n) →
        (is_at t n x ≡ true) ⊎ (is_at t n x ≡ false) → entry_at (x ∷ (xs ++ ys)) t n ≡ entry_at ys t n
    by_test more (inl it) = absurd (nothing (sym (entry_first x xs t n it) ∙ none))
    by_test more (inr other) = entry_later x (xs ++ ys) t n other ∙ more (sym (entry_later x xs t n other) ∙ none)

first_entries : (xs ys : List Event) (t n : ℕ) → entry_at ys t n ≡ None → entry_at (xs ++ ys) t n ≡ entry_at xs t n
first_entries [] ys t n none = none
first_entries (x ∷ xs) ys t n none = ap (λ o. if is_at t n x then Some x else o) (first_entries xs ys t n none)

abbrev pub lesser : Event → ℕ → Bool
lesser c u = nat_lt u c.thread

abbrev pub front_of : Event → List Event → List Event
front_of c xs = by_thread (lesser c) xs

abbrev pub back_of : Event → List Event → List Event
back_of c xs = by_thread (λ u. not (lesser c u)) xs

pub begun_entries : (c : Event) (xs : List Event) (t n : ℕ) →
    entry_at (begun c xs) t n ≡ changed (entry_at xs) c (Some c) t n
begun_entries c xs t n = by_key (true_or_false (is_at t n c))
  where
    by_key : (is_at t n c ≡ true) ⊎ (is_at t n c ≡ false) →
        entry_at ((front_of c xs) ++ c ∷ (back_of c xs)) t n ≡ changed (entry_at xs) c (Some c) t n
    by_key (inl it) =
        let p = at_parts t n c it in
        let own : lesser c t ≡ false = grind (arith, nat_tests, p.0) in
        second_entries (front_of c xs) (c ∷ (back_of c xs)) t n (gone_entries (lesser c) xs t n own)
        ∙ entry_first c (back_of c xs) t n it
        ∙ sym (ap (λ b. if b then Some c else entry_at xs t n) it)
    by_key (inr other) = by_side (true_or_false (lesser c t))
        ∙ sym (ap (λ b. if b then Some c else entry_at xs t n) other)
      where
        by_side : (lesser c t ≡ true) ⊎ (lesser c t ≡ false) →
            entry_at ((front_of c xs) ++ c ∷ (back_of c xs)) t n ≡ entry_at xs t n
        by_side (inl before) =
            first_entries (front_of c xs) (c ∷ (back_of c xs)) t n
            (entry_later c (back_of c xs) t n other ∙ gone_entries (λ u. not (lesser c u)) xs t n (ap not before))
            ∙ kept_entries (lesser c) xs t n before
        by_side (inr behind) =
            second_entries (front_of c xs) (c ∷ (back_of c xs)) t n (gone_entries (lesser c) xs t n behind)
            ∙ entry_later c (back_of c xs) t n other
            ∙ kept_entries (λ u. not (lesser c u)) xs t n (ap not behind)

-- ---- how many haven't taken effect

abbrev pub opens : List Event → ℕ
opens [] = 0
opens (x ∷ xs) = if is_called x.happening then suc (opens xs) else opens xs

pub opens_few : (xs : List Event) → opens xs ≤ length xs
opens_few [] = omega arith
opens_few (x ∷ xs) = by_test (is_called x.happening) (opens_few xs)
  where
    by_test : (b : Bool) → opens xs ≤ length xs → (if b then suc (opens xs) else opens xs) ≤ suc (length xs)
    by_test true few = omega (arith, few)
    by_test false few = omega (arith, few)

opens_not_more : (e : Event) (xs : List Event) → IsEnd e → opens (taken e xs) ≤ opens xs
opens_not_more e [] end = omega arith
opens_not_more e (x ∷ xs) end =
    by_test (opens_not_more e xs end) (is_at e.thread e.call x) (is_called x.happening) refl
  where
    by_test : opens (taken e xs) ≤ opens xs → (b d : Bool) → is_called x.happening ≡ d →
        opens ((if b then e else x) ∷ taken e xs) ≤ (if d then suc (opens xs) else opens xs)
    by_test more true true is = let one = ap (λ d. if d then suc (opens (taken e xs)) else opens (taken e xs)) end in
        omega (arith, more, one)
    by_test more true false is = let one = ap (λ d. if d then suc (opens (taken e xs)) else opens (taken e xs)) end in
        omega (arith, more, one)
    by_test more false true is = let one = ap (λ d. if d then suc (opens (taken e xs)) else opens (taken e xs)) is in
        omega (arith, more, one)
    by_test more false false is = let one = ap (λ d. if d then suc (opens (taken e xs)) else opens (taken e xs)) is in
        omega (arith, more, one)

-- where one takes effect, one less hasn't
pub opens_less : (e : Event) (xs : List Event) (y : Event) → IsEnd e → entry_at xs e.thread e.call ≡ Some y →
    IsCall y →
    opens (taken e xs) < opens xs
opens_less e [] y end is call = absurd (nothing is)
  where
    nothing : None ≡ Some y → ⊥
    nothing h = cc
opens_less e (x ∷ xs) y end is call =
    by_test (λ more. opens_less e xs y end more call) (true_or_false (is_at e.thread e.call x))
  where
    some_is : Some x ≡ Some y → x ≡ y
    some_is h = cc

    by_test : (entry_at xs e.thread e.call ≡ Some y → opens (taken e xs) < opens xs) →
        (is_at e.thread e.call x ≡ true) ⊎ (is_at e.thread e.call x ≡ false) →
        opens (taken e (x ∷ xs)) < opens (x ∷ xs)
    by_test more (inl it) =
        let same : x ≡ y = some_is (sym (entry_first x xs e.thread e.call it) ∙ is) in
        let few = opens_not_more e xs end in
        let one = ap (λ b. opens ((if b then e else x) ∷ taken e xs)) it
        ∙ ap (λ d. if d then suc (opens (taken e xs)) else opens (taken e xs)) end in
        let two = ap (λ d. if d then suc (opens xs) else opens xs) (ap (λ z. is_called z.happening) same ∙ call) in
        omega (arith, few, one, two)
    by_test more (inr other) =
        by_call (more (sym (entry_later x xs e.thread e.call other) ∙ is)) (is_called x.happening) refl
      where
        by_call : opens (taken e xs) < opens xs → (d : Bool) → is_called x.happening ≡ d →
            opens (taken e (x ∷ xs)) < opens (x ∷ xs)
        by_call less true d_is =
            let one = ap (λ b. opens ((if b then e else x) ∷ taken e xs)) other
            ∙ ap (λ d. if d then suc (opens (taken e xs)) else opens (taken e xs)) d_is in
            let two = ap (λ d. if d then suc (opens xs) else opens xs) d_is in
            omega (arith, less, one, two)
        by_call less false d_is =
            let one = ap (λ b. opens ((if b then e else x) ∷ taken e xs)) other
            ∙ ap (λ d. if d then suc (opens (taken e xs)) else opens (taken e xs)) d_is in
            let two = ap (λ d. if d then suc (opens xs) else opens xs) d_is in
            omega (arith, less, one, two)
