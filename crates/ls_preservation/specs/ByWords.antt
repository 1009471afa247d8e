-- A thread of the code is fed, by its own instructions, with the words of locks and the outcomes of exchanges. The
-- answers of its operations follow from these.
use Rattle.std.specs.Prelude.{◌≡◌, ◌≢◌, ℕ, ◌≤◌, List, [], ◌∷◌, map, Option, Some, None, Bool, true, false, ◌==◌}
use Rattle.std.specs.Prelude.{if◌then◌else◌, slice_get}
use Rattle.std.specs.List.{All}
use Rattle.ls_events.specs.declared.kind.Kind.TheVariants.{IllegalMonitorState, Error}
use Rattle.ls_events.specs.declared.action.Action.{Action}
use Rattle.ls_events.specs.declared.action.Action.TheVariants as act
use Rattle.ls_events.specs.declared.action.Answer.{Answer}
use Rattle.ls_events.specs.declared.action.Answer.TheVariants.{Done, Gives, Fails}
use Rattle.ls_checked.specs.CheckedTree.{File}
use Rattle.ls_checked.specs.CheckedProgram.{Program}
use Rattle.ls_meaning.specs.Course.{Answers}
use Rattle.ls_meaning.specs.Threads.{next}
use Rattle.ls_code.specs.Code.{Code, Start}
use Rattle.ls_code.specs.Machine.{started}
use Rattle.ls_code.specs.Thread.{Thread}
use Rattle.ls_code.specs.Locks.{taken_of, is_own}
use Rattle.ls_code.specs.Fed.{Pause, Paused, Passes, IsOver, IsStuck, TooLong, Lost}
use Rattle.ls_code.specs.Fed as own
use Rattle.ls_code.specs.Reading.{full_word, quiet, quiet_from, fed}
use Rattle.ls_code.specs.declared.instruction.Instruction.{Instruction}
use Rattle.ls_code.specs.declared.instruction.Instruction.TheVariants as op
use Rattle.ls_code.specs.declared.lock_word.Taken.{Taken}
use Rattle.ls_code.specs.declared.lock_word.Taken.TheVariants as taken
use Rattle.ls_preservation.specs.InWords.{word_of, map_answer}
use Rattle.ls_preservation.specs.Sorts.{InKind}
use Rattle.ls_preservation.specs.Threads.{told}
use Rattle.ls_preservation.specs.Translations.{most_silent}

-- an instruction that isn't a whole operation on a lock
abbrev pub IsExchanged : Instruction → Type 0
IsExchanged op.Lock = ⊥
IsExchanged op.Unlock = ⊥
IsExchanged op.TryLock = ⊥
IsExchanged i = Unit {0}

-- an action that takes words and outcomes in place of its answer
abbrev pub is_on_lock : Action ℕ → Bool
is_on_lock (act.Lock lock) = true
is_on_lock (act.TryLock lock) = true
is_on_lock (act.Unlock lock) = true
is_on_lock (act.LockMonitor object) = true
is_on_lock (act.UnlockMonitor object) = true
is_on_lock a = false

-- what the next word is for: the action of a pause, or an exchange after the operation has seen a word that it can
-- take
pub data Awaited : Type 0 where
  Waits : (pause : Pause) → Awaited
  Exchanges : (operation : Action ℕ) → (go : Answer ℕ → Option Thread) → Awaited

-- the answers, if the words are such words
abbrev pub Read : Type 0
Read = Option (List (Answer ℕ))

abbrev pub in_front : Answer ℕ → Read → Read
in_front x None = None
in_front x (Some xs) = Some (x ∷ xs)

-- the action is over with this answer
abbrev pub ends_with : Code → ℕ → ℕ → (Answer ℕ → Option Thread) → Answer ℕ → (Awaited → Read) → Read
ends_with p n bound go x next = in_front x (next (Waits (quiet_from p n bound (go x))))

-- if a lock is held the most times, it has one word
abbrev pub too_many : Code → ℕ → ℕ → (Answer ℕ → Option Thread) → ℕ → (Awaited → Read) → Read
too_many p n bound go word next = if word == full_word n then ends_with p n bound go (Fails Error) next else None

-- if another thread is the owner, `lock()`, and the lock of a monitor, looks again; `tryLock()` is over then
abbrev pub seen_by_lock : Code → ℕ → ℕ → Action ℕ → (Answer ℕ → Option Thread) → ℕ → Taken → (Awaited → Read) → Read
seen_by_lock p n bound a go word (taken.Taken changed) next = next (Exchanges a go)
seen_by_lock p n bound a go word taken.Other next = next (Waits (Paused a go))
seen_by_lock p n bound a go word taken.TooMany next = too_many p n bound go word next

abbrev pub seen_by_try : Code → ℕ → ℕ → Action ℕ → (Answer ℕ → Option Thread) → ℕ → Taken → (Awaited → Read) → Read
seen_by_try p n bound a go word (taken.Taken changed) next = next (Exchanges a go)
seen_by_try p n bound a go word taken.Other next = ends_with p n bound go (Gives 0) next
seen_by_try p n bound a go word taken.TooMany next = too_many p n bound go word next

-- the word that SEE sees
abbrev pub sees : Code → ℕ → ℕ → Action ℕ → (Answer ℕ → Option Thread) → ℕ → (Awaited → Read) → Read
sees p n bound (act.Lock lock) go word next = seen_by_lock p n bound (act.Lock lock) go word (taken_of word n) next
sees p n bound (act.TryLock lock) go word next = seen_by_try p n bound (act.TryLock lock) go word (taken_of word n) next
sees p n bound (act.Unlock lock) go word next =
    if is_own word n then ends_with p n bound go Done next else ends_with p n bound go (Fails IllegalMonitorState) next
sees p n bound (act.LockMonitor object) go word next = seen_by_lock p n bound (act.LockMonitor object) go word
    (taken_of word n) next
sees p n bound (act.UnlockMonitor object) go word next =
    if is_own word n then ends_with p n bound go Done next else ends_with p n bound go (Fails IllegalMonitorState) next
sees p n bound a go word next = None

-- the outcome of TAKE: 1 if it is won; if it is lost, `lock()` looks again
abbrev pub exchanges : Code → ℕ → ℕ → Action ℕ → (Answer ℕ → Option Thread) → ℕ → (Awaited → Read) → Read
exchanges p n bound (act.Lock lock) go won next =
    if won == 1 then ends_with p n bound go Done next else next (Waits (Paused (act.Lock lock) go))
exchanges p n bound (act.TryLock lock) go won next =
    if won == 1 then ends_with p n bound go (Gives 1) next else ends_with p n bound go (Gives 0) next
exchanges p n bound (act.LockMonitor object) go won next =
    if won == 1 then ends_with p n bound go Done next else next (Waits (Paused (act.LockMonitor object) go))
exchanges p n bound a go won next = None

abbrev pub on_word : Answer ℕ → (ℕ → Read) → Read
on_word Done read = None
on_word (Gives word) read = read word
on_word (Fails kind) read = None

abbrev pub comes : Code → ℕ → ℕ → Answer ℕ → Awaited → (Awaited → Read) → Read
comes p n bound x (Waits (Paused a go)) next =
    if is_on_lock a then on_word x (λ word. sees p n bound a go word next) else ends_with p n bound go x next
comes p n bound x (Waits (Passes t)) next = in_front x (next (Waits (Passes t)))
comes p n bound x (Waits (IsOver m)) next = in_front x (next (Waits (IsOver m)))
comes p n bound x (Waits IsStuck) next = in_front x (next (Waits IsStuck))
comes p n bound x (Waits TooLong) next = in_front x (next (Waits TooLong))
comes p n bound x (Exchanges a go) next = on_word x (λ won. exchanges p n bound a go won next)

-- the answers that follow from words and outcomes
abbrev pub come_to : Code → ℕ → ℕ → List (Answer ℕ) → Awaited → Read
come_to p n bound [] awaited = Some []
come_to p n bound (x ∷ xs) awaited = comes p n bound x awaited (come_to p n bound xs)

-- Take a thread of code that takes locks by exchange alone. Fed by its own instructions with words and outcomes, it
-- does what it is read to do after the answers. This is said only if it isn't read to be lost, since the reading
-- counts SEE as a silent instruction.
abbrev pub FedByWords : Type 0
FedByWords =
    (p : Code) (n bound k : ℕ) (t : Thread) (words answers : List (Answer ℕ)) → All IsExchanged p.instructions →
    2 ≤ bound →
    come_to p n bound words (Waits (quiet p n k t)) ≡ Some answers → fed p n bound k t answers ≢ Lost →
    own.fed p n bound k t words ≡ fed p n bound k t answers

-- if words and outcomes give answers in kind, a thread that is fed with them asks by its own instructions what the
-- source asks next
abbrev pub AsksByWords : File → Program → Code → Type 0
AsksByWords file program code =
    (t : ℕ) (s : Start) (had : Answers) (words : List (Answer ℕ)) → slice_get code.starts t ≡ Some s →
    InKind file program t had →
    come_to code t (most_silent code) words (Waits (quiet code t (most_silent code) (started s))) ≡ Some
    (map (map_answer word_of) had) →
    own.fed code t (most_silent code) (most_silent code) (started s) words ≡ told (next file program t had)
