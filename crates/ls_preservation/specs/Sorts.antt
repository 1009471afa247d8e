-- Values, objects, actions and answers of their sorts.
use Rattle.std.specs.Prelude.{◌≡◌, ◌≢◌, ℕ, zero, suc, ◌-◌, ◌<◌, ◌^◌, pos, List, [], ◌∷◌, length, Option, Some, None}
use Rattle.std.specs.Prelude.{FitsSigned, slice_get}
use Rattle.std.specs.Int.{w32}
use Rattle.ls_events.specs.declared.kind.Kind.{Kind}
use Rattle.ls_events.specs.declared.kind.Kind.TheVariants.{ArrayIndexOutOfBounds, IllegalMonitorState, Error}
use Rattle.ls_events.specs.declared.value.Value.{Value}
use Rattle.ls_events.specs.declared.value.Value.TheVariants.{Int, Boolean, Reference, Pair}
use Rattle.ls_events.specs.declared.value.ValueType.{ValueType}
use Rattle.ls_events.specs.declared.value.ValueType.TheVariants as type
use Rattle.ls_events.specs.declared.action.Action.{Action}
use Rattle.ls_events.specs.declared.action.Action.TheVariants.{ReadField, WriteField, ReadItem, WriteItem, ReadName}
use Rattle.ls_events.specs.declared.action.Action.TheVariants.{WriteName, New, NewLock, NewMarkable, NewArray, Lock}
use Rattle.ls_events.specs.declared.action.Action.TheVariants.{Unlock, TryLock, IsHeld, LockMonitor, UnlockMonitor}
use Rattle.ls_events.specs.declared.action.Action.TheVariants.{ReadPair, SetPair, SwapPair, AttemptMark, Turn, Enter}
use Rattle.ls_events.specs.declared.action.Action.TheVariants.{Call, Return, Trap}
use Rattle.ls_events.specs.declared.action.Answer.{Answer}
use Rattle.ls_events.specs.declared.action.Answer.TheVariants.{Done, Gives, Fails}
use Rattle.ls_checked.specs.CheckedTree.{Class, File}
use Rattle.ls_checked.specs.CheckedProgram.{Program, ProgramCall, Making, Calling}
use Rattle.ls_meaning.specs.declared.sort.Sort.{Sort}
use Rattle.ls_meaning.specs.declared.sort.Sort.TheVariants.{NoValue, ValueOf, NewOf, PairOf}
use Rattle.ls_meaning.specs.Course.{Answers}
use Rattle.ls_meaning.specs.Threads.{Next, Goes, Ended, Trapped, next, calls_in}

-- a value of a type; the predicate says when a reference is one to a thing of a type
abbrev pub HasTypeBy : (ℕ → ValueType → Type 0) → Value → ValueType → Type 0
HasTypeBy P (Int z) type.Int = FitsSigned w32 z
HasTypeBy P (Boolean b) type.Boolean = Unit {0}
HasTypeBy P (Reference n) type.BooleanArray = P n type.BooleanArray
HasTypeBy P (Reference n) (type.Class c) = P n (type.Class c)
HasTypeBy P (Reference n) type.Lock = P n type.Lock
HasTypeBy P (Reference n) (type.Markable c) = P n (type.Markable c)
HasTypeBy P _ _ = ⊥

-- a value of the sort of an answer; the reference to a new thing isn't null
abbrev pub HasSortBy : (ℕ → ValueType → Type 0) → Value → Sort → Type 0
HasSortBy P v (ValueOf t) = HasTypeBy P v t
HasSortBy P (Reference n) (NewOf t) = (n ≢ 0) × P n t
HasSortBy P (Pair n m) (PairOf c) = P n (type.Class c)
HasSortBy P _ _ = ⊥

-- reference n is null, or it names a thing of a type; the n-th thing has the n-th of these types
abbrev pub Refers : List ValueType → ℕ → ValueType → Type 0
Refers things zero t = Unit {0}
Refers things (suc n) t = slice_get things n ≡ Some t

-- reference n names a thing of a type
abbrev pub Names : List ValueType → ℕ → ValueType → Type 0
Names things zero t = ⊥
Names things (suc n) t = slice_get things n ≡ Some t

abbrev pub HasType : List ValueType → Value → ValueType → Type 0
HasType things v t = HasTypeBy (Refers things) v t

-- the types of a class's fields
abbrev pub fields_by : Option Class → List ValueType
fields_by None = []
fields_by (Some c) = c.fields

abbrev pub fields_of : List Class → ℕ → List ValueType
fields_of classes c = fields_by (slice_get classes c)

-- a name of the setup has the type of its object
abbrev pub NameHas : Program → ℕ → ValueType → Type 0
NameHas program n t = elim (slice_get program.names n) as (λ _. Type 0)
    [ None ↦ ⊥ | Some name ↦ t ≡ type.Class name.class ]

-- a thread's call, by its number from 1
abbrev pub call_at : Program → ℕ → ℕ → Option ProgramCall
call_at program thread n = slice_get (calls_in (slice_get program.threads thread)) (n - 1)

-- the value that a call returns: an int, a boolean, or none
abbrev pub Returns : Option ProgramCall → Option Value → Type 0
Returns None v = ⊥
Returns (Some (Making name c text values)) None = Unit {0}
Returns (Some (Making name c text values)) (Some v) = ⊥
Returns (Some (Calling name m text None values)) None = Unit {0}
Returns (Some (Calling name m text None values)) (Some v) = ⊥
Returns (Some (Calling name m text (Some type.Int) values)) (Some v) = HasType [] v type.Int
Returns (Some (Calling name m text (Some type.Boolean) values)) (Some v) = HasType [] v type.Boolean
Returns (Some (Calling name m text (Some t) values)) v = ⊥

-- an action of a thread on things and values of the right types, whose answer has a sort
abbrev pub ActionHas : File → Program → List ValueType → ℕ → Action Value → Sort → Type 0
ActionHas file program things thread (ReadField n f) s =
    (c : ℕ) × (t : ValueType) × Names things n (type.Class c) × (slice_get (fields_of file.classes c) f ≡ Some t) ×
    (s ≡ ValueOf t)
ActionHas file program things thread (WriteField n f v) s =
    (c : ℕ) × (t : ValueType) × Names things n (type.Class c) × (slice_get (fields_of file.classes c) f ≡ Some t) ×
    HasType things v t × (s ≡ NoValue)
ActionHas file program things thread (ReadItem n i) s = Names things n type.BooleanArray × (s ≡ ValueOf type.Boolean)
ActionHas file program things thread (WriteItem n i v) s = Names things n type.BooleanArray ×
    HasType things v type.Boolean × (s ≡ NoValue)
ActionHas file program things thread (ReadName n) s = (t : ValueType) × NameHas program n t × (s ≡ ValueOf t)
ActionHas file program things thread (WriteName n v) s = (t : ValueType) × NameHas program n t × HasType things v t ×
    (s ≡ NoValue)
ActionHas file program things thread (New c) s = (c < length file.classes) × (s ≡ NewOf (type.Class c))
ActionHas file program things thread NewLock s = s ≡ NewOf type.Lock
ActionHas file program things thread (NewMarkable v) s = (c : ℕ) × HasSortBy (Refers things) v (PairOf c) ×
    (s ≡ NewOf (type.Markable c))
ActionHas file program things thread (NewArray z) s = (n : ℕ) × (z ≡ pos n) × (s ≡ NewOf type.BooleanArray)
ActionHas file program things thread (Lock n) s = Names things n type.Lock × (s ≡ NoValue)
ActionHas file program things thread (Unlock n) s = Names things n type.Lock × (s ≡ NoValue)
ActionHas file program things thread (TryLock n) s = Names things n type.Lock × (s ≡ ValueOf type.Boolean)
ActionHas file program things thread (IsHeld n) s = Names things n type.Lock × (s ≡ ValueOf type.Boolean)
ActionHas file program things thread (LockMonitor n) s = (c : ℕ) × Names things n (type.Class c) × (s ≡ NoValue)
ActionHas file program things thread (UnlockMonitor n) s = (c : ℕ) × Names things n (type.Class c) × (s ≡ NoValue)
ActionHas file program things thread (ReadPair n) s = (c : ℕ) × Names things n (type.Markable c) × (s ≡ PairOf c)
ActionHas file program things thread (SetPair n v) s = (c : ℕ) × Names things n (type.Markable c) ×
    HasSortBy (Refers things) v (PairOf c) × (s ≡ NoValue)
ActionHas file program things thread (SwapPair n e d) s =
    (c : ℕ) × Names things n (type.Markable c) × HasSortBy (Refers things) e (PairOf c) ×
    HasSortBy (Refers things) d (PairOf c) × (s ≡ ValueOf type.Boolean)
ActionHas file program things thread (AttemptMark n r m) s =
    (c : ℕ) × Names things n (type.Markable c) × Refers things r (type.Class c) × (s ≡ ValueOf type.Boolean)
ActionHas file program things thread Turn s = s ≡ NoValue
ActionHas file program things thread (Enter m) s = s ≡ NoValue
ActionHas file program things thread (Call n) s = s ≡ NoValue
ActionHas file program things thread (Return n v) s = Returns (call_at program thread n) v × (s ≡ NoValue)
ActionHas file program things thread (Trap n k) s = s ≡ NoValue

-- the exceptions that an action can be answered
abbrev pub CanFail : Action Value → Kind → Type 0
CanFail (ReadItem n i) k = k ≡ ArrayIndexOutOfBounds
CanFail (WriteItem n i v) k = k ≡ ArrayIndexOutOfBounds
CanFail (Lock n) k = k ≡ Error
CanFail (TryLock n) k = k ≡ Error
CanFail (Unlock n) k = k ≡ IllegalMonitorState
CanFail (LockMonitor n) k = k ≡ Error
CanFail (UnlockMonitor n) k = k ≡ IllegalMonitorState
CanFail _ k = ⊥

-- an answer that is possible for what a thread asks for
abbrev pub Suits : (ℕ → ValueType → Type 0) → Next → Answer Value → Type 0
Suits P (Goes a s) Done = s ≡ NoValue
Suits P (Goes a s) (Gives v) = HasSortBy P v s
Suits P (Goes a s) (Fails k) = CanFail a k
Suits P Ended x = ⊥
Suits P Trapped x = ⊥

-- each answer suits what is asked for after the answers before it
abbrev pub Suited : (ℕ → ValueType → Type 0) → (Answers → Next) → Answers → Type 0
Suited P asks [] = Unit {0}
Suited P asks (x ∷ rest) = Suits P (asks []) x × Suited P (λ more. asks (x ∷ more)) rest

-- answers in kind: of the right sorts, with ints of 32 bits and references below 2 ^ 32
abbrev pub InKind : File → Program → ℕ → Answers → Type 0
InKind file program thread had = Suited (λ n t. n < 2 ^ 32) (next file program thread) had

-- answers whose references name things of the right types
abbrev pub Known : File → Program → List ValueType → ℕ → Answers → Type 0
Known file program things thread had = Suited (Refers things) (next file program thread) had
