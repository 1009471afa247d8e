-- Values, actions and answers under a renaming of references.
use Rattle.std.specs.Prelude.{◌≡◌, ℕ, Option, Some, None, map}
use Rattle.ls_events.specs.declared.value.Value.{Value}
use Rattle.ls_events.specs.declared.value.Value.TheVariants.{Int, Boolean, Reference, Pair}
use Rattle.ls_events.specs.declared.action.Action.{Action}
use Rattle.ls_events.specs.declared.action.Action.TheVariants.{ReadField, WriteField, ReadItem, WriteItem, ReadName}
use Rattle.ls_events.specs.declared.action.Action.TheVariants.{WriteName, New, NewLock, NewMarkable, NewArray, Lock}
use Rattle.ls_events.specs.declared.action.Action.TheVariants.{Unlock, TryLock, IsHeld, LockMonitor, UnlockMonitor}
use Rattle.ls_events.specs.declared.action.Action.TheVariants.{ReadPair, SetPair, SwapPair, AttemptMark, Turn, Enter}
use Rattle.ls_events.specs.declared.action.Action.TheVariants.{Call, Return, Trap}
use Rattle.ls_events.specs.declared.action.Answer.{Answer}
use Rattle.ls_events.specs.declared.action.Answer.TheVariants.{Done, Gives, Fails}
use Rattle.ls_meaning.specs.Course.{Answers}
use Rattle.ls_meaning.specs.Threads.{Next, Goes, Ended, Trapped}

-- null is kept, and no two references become one
pub record IsRenaming (names : ℕ → ℕ) : Type 0 where
  pub null : names 0 ≡ 0
  pub apart : (m n : ℕ) → names m ≡ names n → m ≡ n

abbrev pub renamed : (ℕ → ℕ) → Value → Value
renamed names (Int z) = Int z
renamed names (Boolean b) = Boolean b
renamed names (Reference n) = Reference (names n)
renamed names (Pair n m) = Pair (names n) m

abbrev pub renamed_result : (ℕ → ℕ) → Option Value → Option Value
renamed_result names None = None
renamed_result names (Some v) = Some (renamed names v)

abbrev pub renamed_action : (ℕ → ℕ) → Action Value → Action Value
renamed_action names (ReadField o f) = ReadField (names o) f
renamed_action names (WriteField o f v) = WriteField (names o) f (renamed names v)
renamed_action names (ReadItem o i) = ReadItem (names o) i
renamed_action names (WriteItem o i v) = WriteItem (names o) i (renamed names v)
renamed_action names (ReadName n) = ReadName n
renamed_action names (WriteName n v) = WriteName n (renamed names v)
renamed_action names (New c) = New c
renamed_action names NewLock = NewLock
renamed_action names (NewMarkable p) = NewMarkable (renamed names p)
renamed_action names (NewArray n) = NewArray n
renamed_action names (Lock o) = Lock (names o)
renamed_action names (Unlock o) = Unlock (names o)
renamed_action names (TryLock o) = TryLock (names o)
renamed_action names (IsHeld o) = IsHeld (names o)
renamed_action names (LockMonitor o) = LockMonitor (names o)
renamed_action names (UnlockMonitor o) = UnlockMonitor (names o)
renamed_action names (ReadPair o) = ReadPair (names o)
renamed_action names (SetPair o p) = SetPair (names o) (renamed names p)
renamed_action names (SwapPair o p q) = SwapPair (names o) (renamed names p) (renamed names q)
renamed_action names (AttemptMark o r m) = AttemptMark (names o) (names r) m
renamed_action names Turn = Turn
renamed_action names (Enter m) = Enter m
renamed_action names (Call n) = Call n
renamed_action names (Return n v) = Return n (renamed_result names v)
renamed_action names (Trap n kind) = Trap n kind

abbrev pub renamed_answer : (ℕ → ℕ) → Answer Value → Answer Value
renamed_answer names Done = Done
renamed_answer names (Gives v) = Gives (renamed names v)
renamed_answer names (Fails kind) = Fails kind

abbrev pub renamed_answers : (ℕ → ℕ) → Answers → Answers
renamed_answers names answers = map (renamed_answer names) answers

abbrev pub renamed_next : (ℕ → ℕ) → Next → Next
renamed_next names (Goes action sort) = Goes (renamed_action names action) sort
renamed_next names Ended = Ended
renamed_next names Trapped = Trapped
