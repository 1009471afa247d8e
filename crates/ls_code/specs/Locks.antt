-- Locks, and their words.
use Rattle.std.specs.Prelude.{ℕ, ◌+◌, ◌-◌, ◌*◌, ◌/◌, ◌%◌, ◌^◌, ◌≤◌, Bool, nat_le, ◌==◌, if◌then◌else◌}
use Rattle.ls_code.specs.declared.lock_word.Taken.{Taken}
use Rattle.ls_code.specs.declared.lock_word.Taken.TheVariants as taken
use Rattle.ls_code.specs.declared.lock_word.Left.{Left}
use Rattle.ls_code.specs.declared.lock_word.Left.TheVariants as left

-- a lock is free, or a thread holds it a number of times
pub data LockState : Type 0 where
  Free : LockState
  Held : (owner holds : ℕ) → LockState

-- The word of a lock. It is 0, or it has the owner's number and one in its upper bits, and the holds in its last 32
-- bits.
abbrev pub lock_word_of : LockState → ℕ
lock_word_of Free = 0
lock_word_of (Held owner holds) = (owner + 1) * 2 ^ 32 + holds

-- a lock as it may be
abbrev pub IsLock : LockState → Type 0
IsLock Free = Unit {0}
IsLock (Held owner holds) = (1 ≤ holds) × (holds ≤ 2147483647)

-- What `lock()` by a thread does. It takes a free lock or one more hold, or it has to wait, or the holds would be too
-- many.
pub data LockResult : Type 0 where
  Holds : (state : LockState) → LockResult
  AnotherOwns : LockResult
  OverHeld : LockResult

abbrev pub lock_by : ℕ → LockState → LockResult
lock_by thread Free = Holds (Held thread 1)
lock_by thread (Held owner holds) = if owner == thread then (if holds == 2147483647 then OverHeld else
    Holds (Held owner (holds + 1))) else AnotherOwns

-- what `unlock()` by a thread does: one hold less, or nothing if it isn't the owner
pub data UnlockResult : Type 0 where
  Leaves : (state : LockState) → UnlockResult
  NotOwned : UnlockResult

abbrev pub unlock_by : ℕ → LockState → UnlockResult
unlock_by thread Free = NotOwned
unlock_by thread (Held owner holds) = if owner == thread then
    Leaves (if holds == 1 then Free else Held owner (holds - 1)) else NotOwned

-- what `lock()` and `unlock()` do, as words
abbrev pub taken_in_words : LockResult → Taken
taken_in_words (Holds state) = taken.Taken (lock_word_of state)
taken_in_words AnotherOwns = taken.Other
taken_in_words OverHeld = taken.TooMany

abbrev pub left_in_words : UnlockResult → Left
left_in_words (Leaves state) = left.Left (lock_word_of state)
left_in_words NotOwned = left.NotOwner

-- the same on any word
abbrev pub is_own : ℕ → ℕ → Bool
is_own word thread = word / 2 ^ 32 == thread + 1

abbrev pub taken_of : ℕ → ℕ → Taken
taken_of word thread = if word == 0 then taken.Taken ((thread + 1) * 2 ^ 32 + 1) else
    (if is_own word thread then (if nat_le 2147483647 (word % 2 ^ 32) then taken.TooMany else taken.Taken (word + 1))
    else taken.Other)

abbrev pub left_of : ℕ → ℕ → Left
left_of word thread = if is_own word thread then left.Left (if nat_le (word % 2 ^ 32) 1 then 0 else word - 1) else
    left.NotOwner
