-- A thread in the midst of an operation of a lock or of a monitor.
use Rattle.std.proofs.Common.{◌≡◌, ◌≢◌, ℕ, true, Option, Some, refl, sym, ap, ◌∙◌}
use Rattle.ls_events.specs.declared.action.Action.{Action}
use Rattle.ls_events.specs.declared.action.Action.TheVariants as act
use Rattle.ls_events.specs.declared.action.Answer.{Answer}
use Rattle.ls_events.specs.declared.action.Answer.TheVariants.{Done}
use Rattle.ls_code.specs.Code.{Code}
use Rattle.ls_code.specs.Thread.{Thread}
use Rattle.ls_code.specs.Cells.{Cells, Waits, effect, lock_effect, unlock_effect}
use Rattle.ls_code.specs.Locks.{taken_of, is_own}
use Rattle.ls_code.specs.Steps.{Asks, thread_move}
use Rattle.ls_code.specs.declared.step.Mode.TheVariants as mode
use Rattle.ls_code.specs.declared.lock_word.Taken.TheVariants as taken
use Rattle.ls_code.specs.Reading.{seen, exchanged, word_of_another, after_lock, whole_move}
use Rattle.ls_preservation.specs.Parts.{LockParts, TryParts, IsPlanned, Parts}
use Rattle.ls_preservation.proofs.Others.{Sees, lock_on}

-- the word lets the operation go on: an unlock only of its own, a tryLock only if no other thread owns it
abbrev pub OwnFor : ℕ → ℕ → Action ℕ → Type 0
OwnFor t w (act.Unlock a) = is_own w t ≡ true
OwnFor t w (act.UnlockMonitor a) = is_own w t ≡ true
OwnFor t w (act.TryLock a) = taken_of w t ≢ taken.Other
OwnFor t w _ = Unit {0}

-- an operation that locks, and that waits if another thread is the owner: of a lock, or of a monitor
pub record Locking (a : ℕ) (b : Action ℕ) : Type 0 where
  pub on : lock_on b ≡ Some a
  pub does : (c : Cells) (t : ℕ) → effect c t b ≡ lock_effect c a t Done Waits
  pub own : (t w : ℕ) → OwnFor t w b
  pub parts : (p : Code) (t : ℕ) (y : Thread) (go : Answer ℕ → Option Thread) →
      Parts p t y b go →
      LockParts p t y a b × (go ≡ after_lock p t y)

-- `lock()` is such an operation
pub of_lock : (a : ℕ) → Locking a (act.Lock a)
of_lock a = record { on = refl; does = λ c t. refl; own = λ t w. tt; parts = λ p t y go h. h }

-- so is the lock of a monitor
pub of_monitor : (a : ℕ) → Locking a (act.LockMonitor a)
of_monitor a = record { on = refl; does = λ c t. refl; own = λ t w. tt; parts = λ p t y go h. h }

-- and one that unlocks
pub record Unlocking (a : ℕ) (b : Action ℕ) : Type 0 where
  pub on : lock_on b ≡ Some a
  pub does : (c : Cells) (t : ℕ) → effect c t b ≡ unlock_effect c a t
  pub own : (t w : ℕ) → is_own w t ≡ true → OwnFor t w b

-- `unlock()` is such an operation
pub off_lock : (a : ℕ) → Unlocking a (act.Unlock a)
off_lock a = record { on = refl; does = λ c t. refl; own = λ t w h. h }

-- so is the unlock of a monitor
pub off_monitor : (a : ℕ) → Unlocking a (act.UnlockMonitor a)
off_monitor a = record { on = refl; does = λ c t. refl; own = λ t w h. h }

-- Where thread x of the machine is, seen from the thread y that begins the operation. It is at the beginning. Or it
-- has seen a lock's word. Or it is back from a lost exchange or from another's word. Or the word has said that tryLock
-- failed, and its TAKE is still to come.
pub data Middle (p : Code) (c : Cells) (t : ℕ) (y x : Thread) : Type 0 where
  Here : x ≡ y → Middle p c t y x
  Saw : y.mode ≡ mode.Running →
      (b : Action ℕ) (go : Answer ℕ → Option Thread) (lock w : ℕ) →
      whole_move p t y ≡ Asks b go →
      IsPlanned (thread_move p y) →
      lock_on b ≡ Some lock →
      x ≡ seen y w →
      Sees c t lock w →
      OwnFor t w b →
      Middle p c t y x
  Lost : y.mode ≡ mode.Running →
      (a : ℕ) (b : Action ℕ) →
      Locking a b →
      (go : Answer ℕ → Option Thread) →
      whole_move p t y ≡ Asks b go →
      IsPlanned (thread_move p y) →
      x ≡ exchanged y 0 →
      Middle p c t y x
  Told : y.mode ≡ mode.Running →
      (z : Thread) (a w : ℕ) →
      TryParts p t z a →
      y ≡ seen z (word_of_another t) →
      x ≡ seen z w →
      taken_of w t ≡ taken.Other →
      Middle p c t y x

module _ (p : Code) (c : Cells) (t : ℕ) (y x : Thread) where
  -- in the midst of an operation the mode stays
  pub same_mode : Middle p c t y x → x.mode ≡ y.mode
  same_mode (Here e) = ap (λ z. z.mode) e
  same_mode (Saw r b go lock w m h l e s o) = ap (λ z. z.mode) e
  same_mode (Lost r a b l go m h e) = ap (λ z. z.mode) e
  same_mode (Told r z a w h ey ex k) = ap (λ z. z.mode) ex ∙ sym (ap (λ z. z.mode) ey)

  -- a thread stays in the midst of an operation if the word that it saw stays true
  pub middle_kept : (d : Cells) →
      (y.mode ≡ mode.Running → (b : Action ℕ) (go : Answer ℕ → Option Thread) (lock w : ℕ) →
      whole_move p t y ≡ Asks b go → lock_on b ≡ Some lock → Sees c t lock w → Sees d t lock w) →
      Middle p c t y x →
      Middle p d t y x
  middle_kept d f (Here e) = Here e
  middle_kept d f (Saw r b go lock w m h l e s o) = Saw r b go lock w m h l e (f r b go lock w m l s) o
  middle_kept d f (Lost r a b l go m h e) = Lost r a b l go m h e
  middle_kept d f (Told r z a w h ey ex k) = Told r z a w h ey ex k
