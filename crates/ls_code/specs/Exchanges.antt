-- Locks and monitors by load and exchange: SEE, TAKE and DROP. The word of a lock, or of an object's monitor, is in
-- its first cell.
use Rattle.std.specs.Prelude.{ℕ, List, ◌∷◌, length, Option, Some, None, ◌||◌, ◌==◌, nat_lt, if◌then◌else◌}
use Rattle.ls_code.specs.Frame.{Frame}
use Rattle.ls_code.specs.Moves.{pushed, settled, discarded}
use Rattle.ls_code.specs.Locks.{taken_of, left_of, is_own}
use Rattle.ls_code.specs.Throws.{thrown}
use Rattle.ls_code.specs.Thread.{Thread, with_top, with_frames}
use Rattle.ls_code.specs.Code.{Code}
use Rattle.ls_events.specs.declared.kind.Kind.{Kind}
use Rattle.ls_events.specs.declared.kind.Kind.TheVariants.{NullPointer, IllegalMonitorState, Error}
use Rattle.ls_events.specs.declared.action.Action.{Action}
use Rattle.ls_events.specs.declared.action.Action.TheVariants as act
use Rattle.ls_events.specs.declared.action.Answer.{Answer}
use Rattle.ls_events.specs.declared.action.Answer.TheVariants.{Done, Gives, Fails}
use Rattle.ls_code.specs.declared.lock_word.Taken.{Taken}
use Rattle.ls_code.specs.declared.lock_word.Taken.TheVariants as taken
use Rattle.ls_code.specs.declared.lock_word.Left.{Left}
use Rattle.ls_code.specs.declared.lock_word.Left.TheVariants as left

-- What a thread does once it knows a lock's word. It goes on in silence, or its operation is over with this answer. If
-- there is no thread, it is stuck.
pub data Seen : Type 0 where
  Quietly : (thread : Option Thread) → Seen
  Reports : (action : Action ℕ) → (answer : Answer ℕ) → (thread : Option Thread) → Seen

-- What a thread does with a lock's word, as a part of an operation on the lock. `Says`: nothing with the cell.
-- `Touches`: the cell is read or exchanged like that of a pair; the thread goes on with the word that it read, or with
-- 1 if it won the exchange. `Stores`: the cell is written.
pub data Plan : Type 0 where
  Says : (seen : Seen) → Plan
  Touches : (operation : Action ℕ) → (touch : Action ℕ) → (go : ℕ → Seen) → Plan
  Stores : (touch : Action ℕ) → (seen : Seen) → Plan

abbrev pub stuck : Plan
stuck = Says (Quietly None)

abbrev pub thrown_to : Thread → Option (Frame × List Frame) → Option Thread
thrown_to t None = None
thrown_to t (Some r) = Some (with_frames t r.0 r.1)

-- the thread after a throw
abbrev pub throwing : Code → Thread → Kind → Option Thread
throwing p t kind = thrown_to t (thrown p.handlers kind (t.top ∷ t.below))

-- The operation that an operand names. Of SEE: 1 lock, 2 tryLock, 3 unlock, 4 and 5 lock and unlock of a monitor. Of
-- TAKE: 1 lock, 2 tryLock, 4 lock of a monitor. Of DROP: 0 unlock, 1 unlock of a monitor.
abbrev pub seeing_action : ℕ → ℕ → Option (Action ℕ)
seeing_action x lock =
    if x == 1 then Some (act.Lock lock) else (if x == 2 then Some (act.TryLock lock) else
    (if x == 3 then Some (act.Unlock lock) else (if x == 4 then Some (act.LockMonitor lock) else
    (if x == 5 then Some (act.UnlockMonitor lock) else None))))

abbrev pub taking_action : ℕ → ℕ → Option (Action ℕ)
taking_action x lock = if x == 1 then Some (act.Lock lock) else
    (if x == 2 then Some (act.TryLock lock) else (if x == 4 then Some (act.LockMonitor lock) else None))

abbrev pub dropping_action : ℕ → ℕ → Option (Action ℕ)
dropping_action x lock = if x == 0 then Some (act.Unlock lock) else
    (if x == 1 then Some (act.UnlockMonitor lock) else None)

abbrev pub taking_answer : ℕ → Answer ℕ
taking_answer x = if x == 2 then Gives 1 else Done

abbrev pub with_word : Thread → ℕ → Option Thread
with_word t word = Some (with_top t (pushed t.top word))

-- SEE pushes the word. Two operations are over here: a tryLock if another thread owns the lock, and an unlock if this
-- thread doesn't own it.
abbrev pub saw : Code → Thread → ℕ → ℕ → Action ℕ → ℕ → Seen
saw p t n x operation word =
    if x == 2 then
    (elim (taken_of word n) as (λ _. Seen) [
      | taken.Other ↦ Reports operation (Gives 0) (with_word t word)
      | taken.Taken next ↦ Quietly (with_word t word)
      | taken.TooMany ↦ Quietly (with_word t word)
    ]) else
    (if x == 3 || x == 5 then (if is_own word n then Quietly (with_word t word) else
    Reports operation (Fails IllegalMonitorState) (throwing p t IllegalMonitorState)) else
    Quietly (with_word t word))

abbrev pub see_named : Code → Thread → ℕ → ℕ → ℕ → Option (Action ℕ) → Plan
see_named p t n x lock None = stuck
see_named p t n x lock (Some operation) =
    if lock == 0 then Says (Quietly (throwing p t NullPointer)) else
    (if nat_lt (length t.top.operands) t.top.need then Touches operation (act.ReadPair lock) (saw p t n x operation)
    else stuck)

abbrev pub see_at : Code → Thread → ℕ → ℕ → Option ℕ → Plan
see_at p t n x None = stuck
see_at p t n x (Some lock) = see_named p t n x lock (seeing_action x lock)

-- TAKE: the word that was seen is exchanged for its next word
abbrev pub replaced : Thread → ℕ → Option Thread
replaced t word = Some (with_top t (settled t.top 1 word))

abbrev pub took : Thread → ℕ → Action ℕ → ℕ → Seen
took t x operation won = if won == 1 then Reports operation (taking_answer x) (replaced t 1) else
    (if x == 2 then Reports operation (Gives 0) (replaced t 0) else Quietly (replaced t 0))

abbrev pub take_from : Code → Thread → ℕ → Action ℕ → ℕ → ℕ → Taken → Plan
take_from p t x operation lock word taken.Other = Says (Quietly (replaced t 0))
take_from p t x operation lock word taken.TooMany = Says (Reports operation (Fails Error) (throwing p t Error))
take_from p t x operation lock word (taken.Taken next) = Touches operation (act.SwapPair lock word next)
    (took t x operation)

abbrev pub take_named : Code → Thread → ℕ → ℕ → ℕ → ℕ → Option (Action ℕ) → Plan
take_named p t n x lock word None = stuck
take_named p t n x lock word (Some operation) = take_from p t x operation lock word (taken_of word n)

abbrev pub take_at : Code → Thread → ℕ → ℕ → Option (ℕ × ℕ) → Plan
take_at p t n x None = stuck
take_at p t n x (Some r) = take_named p t n x r.0 r.1 (taking_action x r.0)

-- DROP: the word after one unlock is stored
abbrev pub drop_to : Thread → Action ℕ → ℕ → Left → Plan
drop_to t operation lock left.NotOwner = stuck
drop_to t operation lock (left.Left next) = Stores (act.SetPair lock next)
    (Reports operation Done (Some (with_top t (discarded t.top 2))))

abbrev pub drop_named : Thread → ℕ → ℕ → ℕ → Option (Action ℕ) → Plan
drop_named t n lock word None = stuck
drop_named t n lock word (Some operation) = drop_to t operation lock (left_of word n)

abbrev pub drop_at : Thread → ℕ → ℕ → Option (ℕ × ℕ) → Plan
drop_at t n x None = stuck
drop_at t n x (Some r) = drop_named t n r.0 r.1 (dropping_action x r.0)
