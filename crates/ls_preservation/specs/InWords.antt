-- Values, actions, answers and traces of the source, written in machine words.
use Rattle.std.specs.Prelude.{◌≡◌, ℕ, zero, suc, ◌+◌, ◌≤◌, List, [], ◌∷◌, map, Option, Some, None, ◌<◌, ◌^◌}
use Rattle.ls_events.specs.declared.value.Value.{Value}
use Rattle.ls_events.specs.declared.value.Value.TheVariants.{Int, Boolean, Reference, Pair}
use Rattle.ls_events.specs.declared.action.Action.{Action}
use Rattle.ls_events.specs.declared.action.Action.TheVariants.{ReadField, WriteField, ReadItem, WriteItem, ReadName}
use Rattle.ls_events.specs.declared.action.Action.TheVariants.{WriteName, New, NewLock, NewMarkable, NewArray, Lock}
use Rattle.ls_events.specs.declared.action.Action.TheVariants.{Unlock, TryLock, IsHeld, LockMonitor, UnlockMonitor}
use Rattle.ls_events.specs.declared.action.Action.TheVariants.{ReadPair, SetPair, SwapPair, AttemptMark, Turn, Enter}
use Rattle.ls_events.specs.declared.action.Action.TheVariants.{Call, Return, Trap}
use Rattle.ls_events.specs.declared.action.Answer.{Answer}
use Rattle.ls_events.specs.declared.action.Answer.TheVariants.{Done, Gives, Fails}
use Rattle.ls_meaning.specs.Renamings.{renamed}
use Rattle.ls_meaning.specs.Steps as source
use Rattle.ls_code.specs.Machine as machine
use Rattle.ls_code.specs.Words.{word_of as int_word, bool_word, pair_word}

-- The word of a value. An int gives its value modulo 2 ^ 32, a boolean 0 or 1, and null 0. A reference gives its
-- address. A pair gives twice the address plus the mark.
abbrev pub word_of : Value → ℕ
word_of (Int z) = int_word z
word_of (Boolean b) = bool_word b
word_of (Reference n) = n
word_of (Pair n m) = pair_word n (bool_word m)

-- the word of a value, if object n is at address ρ n
abbrev pub written : (ℕ → ℕ) → Value → ℕ
written ρ v = word_of (renamed ρ v)

abbrev pub map_option : {V W : Type 0} → (V → W) → Option V → Option W
map_option f None = None
map_option f (Some v) = Some (f v)

-- An action with its objects and its values replaced, and a field by its cell. The first cell of an object is that of
-- its monitor.
abbrev pub map_action : {V W : Type 0} → (ℕ → ℕ) → (V → W) → Action V → Action W
map_action ρ f (ReadField o i) = ReadField (ρ o) (i + 1)
map_action ρ f (WriteField o i v) = WriteField (ρ o) (i + 1) (f v)
map_action ρ f (ReadItem o i) = ReadItem (ρ o) i
map_action ρ f (WriteItem o i v) = WriteItem (ρ o) i (f v)
map_action ρ f (ReadName n) = ReadName n
map_action ρ f (WriteName n v) = WriteName n (f v)
map_action ρ f (New c) = New c
map_action ρ f NewLock = NewLock
map_action ρ f (NewMarkable v) = NewMarkable (f v)
map_action ρ f (NewArray n) = NewArray n
map_action ρ f (Lock o) = Lock (ρ o)
map_action ρ f (Unlock o) = Unlock (ρ o)
map_action ρ f (TryLock o) = TryLock (ρ o)
map_action ρ f (IsHeld o) = IsHeld (ρ o)
map_action ρ f (LockMonitor o) = LockMonitor (ρ o)
map_action ρ f (UnlockMonitor o) = UnlockMonitor (ρ o)
map_action ρ f (ReadPair o) = ReadPair (ρ o)
map_action ρ f (SetPair o v) = SetPair (ρ o) (f v)
map_action ρ f (SwapPair o e d) = SwapPair (ρ o) (f e) (f d)
map_action ρ f (AttemptMark o r m) = AttemptMark (ρ o) (ρ r) m
map_action ρ f Turn = Turn
map_action ρ f (Enter m) = Enter m
map_action ρ f (Call n) = Call n
map_action ρ f (Return n v) = Return n (map_option f v)
map_action ρ f (Trap n k) = Trap n k

abbrev pub map_answer : {V W : Type 0} → (V → W) → Answer V → Answer W
map_answer f Done = Done
map_answer f (Gives v) = Gives (f v)
map_answer f (Fails k) = Fails k

-- a line of the source's trace in words, if object n is at address ρ n
abbrev pub in_words : (ℕ → ℕ) → source.Entry Value → machine.Entry
in_words ρ e = record {
  thread = e.thread;
  action = map_action ρ (written ρ) e.action;
  answer = map_answer (written ρ) e.answer;
}

-- the answer of a making, put before the others
abbrev pub born : Action ℕ → Answer ℕ → List ℕ → List ℕ
born (New c) (Gives a) rest = a ∷ rest
born NewLock (Gives a) rest = a ∷ rest
born (NewMarkable w) (Gives a) rest = a ∷ rest
born (NewArray n) (Gives a) rest = a ∷ rest
born _ _ rest = rest

-- the addresses of the objects that a trace makes, in order of making
abbrev pub births : List machine.Entry → List ℕ
births [] = []
births (f ∷ fs) = born f.action f.answer (births fs)

-- the address of object n: that of the n-th making; null is 0
abbrev pub numbered : List ℕ → ℕ → ℕ
numbered places zero = 0
numbered [] (suc n) = 0
numbered (a ∷ places) (suc zero) = a
numbered (a ∷ places) (suc (suc n)) = numbered places (suc n)

-- the objects up to the k-th, and null, have different addresses, for which there is room in a word beside a mark
pub record ArePlaces (k : ℕ) (ρ : ℕ → ℕ) : Type 0 where
  pub distinct : (m n : ℕ) → m ≤ k → n ≤ k → ρ m ≡ ρ n → m ≡ n
  pub small : (n : ℕ) → n ≤ k → ρ n < 2 ^ 32

-- the machine's trace is the source's in words, with the address of the i-th making for object i
abbrev pub Agree : List machine.Entry → List (source.Entry Value) → Type 0
Agree fs es = fs ≡ map (in_words (numbered (births fs))) es
