-- A lock's word that a thread saw, and what it says of the word that is there now.
use Rattle.std.proofs.Common.{◌≡◌, ◌≢◌, ℕ, ◌+◌, ◌-◌, ◌*◌, ◌/◌, ◌%◌, ◌<◌, ◌≤◌, ◌^◌, ◌==◌, Bool, true, false, refl, sym}
use Rattle.std.proofs.Common.{ap, ◌∙◌, arith, nat_le, if◌then◌else◌}
use Rattle.std.proofs.lemmas.Bool.Decides.{nat_tests}
use Rattle.ls_code.specs.Locks.{taken_of, left_of, is_own}
use Rattle.ls_code.specs.declared.lock_word.Taken.TheVariants as taken
use Rattle.ls_code.specs.declared.lock_word.Left.TheVariants as left

-- What stays true of the word now, whatever the other threads do. If the word that was seen was the thread's own, it
-- is still that word. Else it isn't the thread's own.
abbrev pub Fresh : ℕ → ℕ → ℕ → Type 0
Fresh t seen now = (is_own seen t ≡ true → now ≡ seen) × (is_own seen t ≡ false → is_own now t ≡ false)

-- a word that was just seen is fresh
pub fresh_now : (t w : ℕ) → Fresh t w w
fresh_now t w = (λ h. refl, λ h. h)

-- the word of a free lock is no thread's own
pub zero_not_own : (t : ℕ) → is_own 0 t ≡ false
zero_not_own t = grind (arith, nat_tests)

-- a word that is a thread's own has the thread's number and one in its upper bits
pub own_is : (w t : ℕ) → is_own w t ≡ true → w / 2 ^ 32 ≡ t + 1
own_is w t h = grind (arith, nat_tests)

own_so : (w t : ℕ) → w / 2 ^ 32 ≡ t + 1 → is_own w t ≡ true
own_so w t h = grind (arith, nat_tests)

not_own_so : (w t : ℕ) → w / 2 ^ 32 ≢ t + 1 → is_own w t ≡ false
not_own_so w t h = grind (arith, nat_tests)

-- by the word's cases
pub data TakenBy (w t : ℕ) : Type 0 where
  IsFree : w ≡ 0 → taken_of w t ≡ taken.Taken ((t + 1) * 2 ^ 32 + 1) → TakenBy w t
  IsOwn : w ≢ 0 → is_own w t ≡ true → w % 2 ^ 32 < 2147483647 → taken_of w t ≡ taken.Taken (w + 1) → TakenBy w t
  IsFull : w ≢ 0 → is_own w t ≡ true → 2147483647 ≤ w % 2 ^ 32 → taken_of w t ≡ taken.TooMany → TakenBy w t
  IsOthers : w ≢ 0 → is_own w t ≡ false → taken_of w t ≡ taken.Other → TakenBy w t

taken_test : (w t : ℕ) (a b d : Bool) →
    (w == 0) ≡ a →
    is_own w t ≡ b →
    nat_le 2147483647 (w % 2 ^ 32) ≡ d →
    taken_of w t ≡ (if a then taken.Taken ((t + 1) * 2 ^ 32 + 1) else
    (if b then (if d then taken.TooMany else taken.Taken (w + 1)) else taken.Other))
taken_test w t a b d ea eb ed =
    ap (λ z. if z then taken.Taken ((t + 1) * 2 ^ 32 + 1) else
    (if is_own w t then (if nat_le 2147483647 (w % 2 ^ 32) then taken.TooMany else taken.Taken (w + 1)) else
    taken.Other)) ea
    ∙ ap (λ z. if a then taken.Taken ((t + 1) * 2 ^ 32 + 1) else
    (if z then (if nat_le 2147483647 (w % 2 ^ 32) then taken.TooMany else taken.Taken (w + 1)) else taken.Other)) eb
    ∙ ap (λ z. if a then taken.Taken ((t + 1) * 2 ^ 32 + 1) else
    (if b then (if z then taken.TooMany else taken.Taken (w + 1)) else taken.Other)) ed

-- what `lock()` makes of a word, case by case
pub taken_by : (w t : ℕ) → TakenBy w t
taken_by w t = by_cases (w == 0) (is_own w t) (nat_le 2147483647 (w % 2 ^ 32)) refl refl refl
  where
    by_cases : (a b d : Bool) → (w == 0) ≡ a → is_own w t ≡ b → nat_le 2147483647 (w % 2 ^ 32) ≡ d → TakenBy w t
    by_cases true b d ea eb ed = IsFree (grind (arith, nat_tests)) (taken_test w t true b d ea eb ed)
    by_cases false true false ea eb ed = IsOwn (grind (arith, nat_tests)) eb (grind (arith, nat_tests))
        (taken_test w t false true false ea eb ed)
    by_cases false true true ea eb ed = IsFull (grind (arith, nat_tests)) eb (grind (arith, nat_tests))
        (taken_test w t false true true ea eb ed)
    by_cases false false d ea eb ed = IsOthers (grind (arith, nat_tests)) eb (taken_test w t false false d ea eb ed)

-- a lost exchange of a word that could be taken: another owns the lock
pub lost_other : (t seen now next : ℕ) →
    Fresh t seen now →
    taken_of seen t ≡ taken.Taken next →
    now ≢ seen →
    taken_of now t ≡ taken.Other
lost_other t seen now next fresh et differ = from_seen (taken_by seen t)
  where
    from_now : seen ≡ 0 → TakenBy now t → taken_of now t ≡ taken.Other
    from_now z (IsFree e x) = absurd (differ (e ∙ sym z))
    from_now z (IsOwn n o l x) =
        let a : is_own now t ≡ false = fresh.1 (ap (λ v. is_own v t) z ∙ zero_not_own t) in absurd (cc)
    from_now z (IsFull n o l x) =
        let a : is_own now t ≡ false = fresh.1 (ap (λ v. is_own v t) z ∙ zero_not_own t) in absurd (cc)
    from_now z (IsOthers n o x) = x

    from_seen : TakenBy seen t → taken_of now t ≡ taken.Other
    from_seen (IsFree e x) = from_now e (taken_by now t)
    from_seen (IsOwn n o l x) = absurd (differ (fresh.0 o))
    from_seen (IsFull n o l x) = cc
    from_seen (IsOthers n o x) = cc

-- a full word is still there
pub full_now : (t seen now : ℕ) → Fresh t seen now → taken_of seen t ≡ taken.TooMany → now ≡ seen
full_now t seen now fresh et = from_seen (taken_by seen t)
  where
    from_seen : TakenBy seen t → now ≡ seen
    from_seen (IsFree e x) = cc
    from_seen (IsOwn n o l x) = cc
    from_seen (IsFull n o l x) = fresh.0 o
    from_seen (IsOthers n o x) = cc

-- the word of one owner isn't another's
pub one_owner : (w t u : ℕ) → u ≢ t → is_own w u ≡ true → is_own w t ≡ false
one_owner w t u d h = not_own_so w t (let e = own_is w u h in omega arith)

-- what another thread takes
pub taken_apart : (w t u next : ℕ) →
    u ≢ t →
    taken_of w u ≡ taken.Taken next →
    (is_own w t ≡ false) × (is_own next t ≡ false)
taken_apart w t u next d e = by_word (taken_by w u)
  where
    by_word : TakenBy w u → (is_own w t ≡ false) × (is_own next t ≡ false)
    by_word (IsFree z x) =
        let n : next ≡ (u + 1) * 2 ^ 32 + 1 = cc in
        (ap (λ v. is_own v t) z ∙ zero_not_own t, not_own_so next t (omega arith))
    by_word (IsOwn nz o l x) =
        let n : next ≡ w + 1 = cc in
        let h : w / 2 ^ 32 ≡ u + 1 = own_is w u o in
        (one_owner w t u d o, not_own_so next t (omega arith))
    by_word (IsFull nz o l x) = cc
    by_word (IsOthers nz o x) = cc

-- what another thread leaves
pub left_apart : (w t u next : ℕ) →
    u ≢ t →
    left_of w u ≡ left.Left next →
    (is_own w t ≡ false) × (is_own next t ≡ false)
left_apart w t u next d e = by_owner (is_own w u) refl
  where
    to : (b : Bool) →
        is_own w u ≡ b →
        left_of w u ≡ (if b then left.Left (if nat_le (w % 2 ^ 32) 1 then 0 else w - 1) else left.NotOwner)
    to b eb = ap (λ z. if z then left.Left (if nat_le (w % 2 ^ 32) 1 then 0 else w - 1) else left.NotOwner) eb

    by_holds : (b : Bool) →
        is_own w u ≡ true →
        nat_le (w % 2 ^ 32) 1 ≡ b →
        next ≡ (if b then 0 else w - 1) →
        is_own next t ≡ false
    by_holds true o eb n = ap (λ v. is_own v t) n ∙ zero_not_own t
    by_holds false o eb n =
        let h : w / 2 ^ 32 ≡ u + 1 = own_is w u o in
        let l : 1 < w % 2 ^ 32 = grind (arith, nat_tests) in
        not_own_so next t (omega arith)

    by_owner : (b : Bool) → is_own w u ≡ b → (is_own w t ≡ false) × (is_own next t ≡ false)
    by_owner false eb = let x = to false eb in cc
    by_owner true eb =
        let x = to true eb in
        let n : next ≡ (if nat_le (w % 2 ^ 32) 1 then 0 else w - 1) = cc in
        (one_owner w t u d eb, by_holds (nat_le (w % 2 ^ 32) 1) eb refl n)

-- what a word left by another says to the thread that saw
pub fresh_apart : (t seen now next : ℕ) →
    Fresh t seen now →
    (is_own now t ≡ false) × (is_own next t ≡ false) →
    Fresh t seen next
fresh_apart t seen now next fresh h = (
  λ o. (let e : now ≡ seen = fresh.0 o in
      let x : is_own now t ≡ true = ap (λ v. is_own v t) e ∙ o in cc),
  λ o. h.1,
)

-- an unlock by the owner
pub own_left : (w t : ℕ) → is_own w t ≡ true → left_of w t ≡ left.Left (if nat_le (w % 2 ^ 32) 1 then 0 else w - 1)
own_left w t h = ap (λ z. if z then left.Left (if nat_le (w % 2 ^ 32) 1 then 0 else w - 1) else left.NotOwner) h

-- a word that isn't a thread's own can't be unlocked by it
pub not_left : (w t : ℕ) → is_own w t ≡ false → left_of w t ≡ left.NotOwner
not_left w t h = ap (λ z. if z then left.Left (if nat_le (w % 2 ^ 32) 1 then 0 else w - 1) else left.NotOwner) h
