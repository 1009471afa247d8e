-- Programs whose calls lock the same field round their whole bodies, as `lock.lock(); try { .. } finally {
-- lock.unlock(); }`.
use Rattle.std.specs.Prelude.{◌≡◌, ◌≢◌, ◌⊎◌, ◌<◌, ℕ, suc, Bool, true, List, [], ◌∷◌, Some, length, slice_get}
use Rattle.ls_events.specs.declared.value.Value.{Value}
use Rattle.ls_checked.specs.declared.tree.Called.TheVariants.{LockIt, UnlockIt}
use Rattle.ls_checked.specs.CheckedTree.{Class, File, Method, Expression, Literal, Slot, Field, Call, MakeLock, End}
use Rattle.ls_checked.specs.CheckedTree.{Statement, Statements}
use Rattle.ls_checked.specs.CheckedTree.{Block, Then, Done, Evaluate, Try, SetSlot, SetField, ReturnNothing}
use Rattle.ls_checked.specs.CheckedTree.{ReturnValue}
use Rattle.ls_checked.specs.CheckedProgram.{Program, ProgramCall, Making, Calling}
use Rattle.ls_meaning.specs.Values.{reference_of}
use Rattle.ls_meaning.specs.Expressions.{constructor_of}
use Rattle.ls_meaning.specs.Threads.{calls_in}
use Rattle.ls_meaning.specs.Runs.{source_history}
use Rattle.ls_linearizable.specs.Linearizable.{IsLinearizable}
use Rattle.ls_one_at_a_time.specs.Inner.{AreHelpers, RunsPlain, RunPlain}
use Rattle.ls_one_at_a_time.specs.Waiting.{NoThreadWaits}
use Rattle.ls_one_at_a_time.specs.Clean.{AreCleanMethods, RunClean, RunsClean}

-- what a local is set to before the lock: a constant, or a parameter or local other than `this`
pub record Setting : Type 0 where
  pub slot : ℕ
  pub value : Expression

-- a constant that is no reference, or a parameter or a local
abbrev pub IsSilent : Expression → Type 0
IsSilent (Literal v) = reference_of v ≡ 0
IsSilent (Slot (suc n)) = Unit {0}
IsSilent _ = ⊥

-- of settings
abbrev pub AreSilent : List Setting → Type 0
AreSilent [] = Unit {0}
AreSilent (a ∷ bs) = (0 ≢ a.slot) × IsSilent a.value × AreSilent bs

-- settings of locals, and what follows
abbrev pub settings : List Setting → Statements → Statements
settings [] rest = rest
settings (a ∷ bs) rest = Then (SetSlot a.slot a.value) (settings bs rest)

-- what may come after the lock is free again: nothing, or a return of a constant, a parameter or a local
abbrev pub IsReturn : Statement → Type 0
IsReturn ReturnNothing = Unit {0}
IsReturn (ReturnValue e) = IsSilent e
IsReturn _ = ⊥

-- nothing follows, or the return of a local
abbrev pub IsAfter : Statements → Type 0
IsAfter Done = Unit {0}
IsAfter (Then s Done) = IsReturn s
IsAfter (Then s (Then t ss)) = ⊥

-- some locals are set, the lock is in field f of `this`, an object of class c, and at the end there may be a return
abbrev pub locked_body : ℕ → ℕ → List Setting → Statement → Statements → Statement
locked_body c f before inner after =
    Block (settings before (
    Then (Evaluate (Call (Field (Slot 0) c f) LockIt End)) (
    Then (Try inner (Block (Then (Evaluate (Call (Field (Slot 0) c f) UnlockIt End)) Done)))
    after)))

-- fields of `this` are set, to constants, parameters or locals
abbrev pub field_settings : List Setting → Statements → Statements
field_settings [] rest = rest
field_settings (a ∷ bs) rest = Then (SetField (Slot 0) a.slot a.value) (field_settings bs rest)

-- of settings of fields
abbrev pub AllSilent : List Setting → Type 0
AllSilent [] = Unit {0}
AllSilent (a ∷ bs) = IsSilent a.value × AllSilent bs

-- the constructor sets fields so, then makes the lock, and then goes on
abbrev pub locking_body : ℕ → List Setting → Statements → Statement
locking_body f before rest = Block (field_settings before (Then (SetField (Slot 0) f MakeLock) rest))

-- the methods that bodies call on the object, those that they call on others, and the constructor of the object
module _ (OnThis Helps Makes : ℕ → Bool) where
  -- the methods that may be called on `this`
  abbrev pub IsOnThis : ℕ → Type 0
  IsOnThis m = OnThis m ≡ true

  -- the methods and constructors that may be called on other objects
  abbrev pub IsHelp : ℕ → Type 0
  IsHelp m = Helps m ≡ true

  -- one of these
  abbrev pub IsCallee : ℕ → Type 0
  IsCallee m = IsOnThis m ⊎ (IsHelp m ⊎ (Makes m ≡ true))

  -- a method with the lock round its whole body, in which the object is no value and no lock is touched
  pub record IsLocked (file : File) (c f m : ℕ) : Type 0 where
    pub method : Method
    pub before : List Setting
    pub inner : Statement
    pub last : Statements
    pub there : slice_get file.methods m ≡ Some method
    pub is : method.body ≡ locked_body c f before inner last
    pub after : IsAfter last
    pub silent : AreSilent before
    pub plain : RunsPlain IsCallee file.classes 0 inner
    pub clean : RunsClean IsOnThis IsHelp file.classes f true inner

  -- a constructor that makes the lock in its field, and then touches no lock
  pub record IsLocking (file : File) (c f : ℕ) : Type 0 where
    pub class : Class
    pub class_there : slice_get file.classes c ≡ Some class
    pub field : f < length class.fields
    pub method : Method
    pub before : List Setting
    pub silent : AllSilent before
    pub rest : Statements
    pub there : slice_get file.methods (constructor_of file.classes c) ≡ Some method
    pub is : method.body ≡ locking_body f before rest
    pub plain : RunPlain IsCallee file.classes 0 rest
    pub clean : RunClean IsOnThis IsHelp file.classes f true rest

  -- arguments name no object
  abbrev pub NameNone : List Value → Type 0
  NameNone [] = Unit {0}
  NameNone (v ∷ vs) = (reference_of v ≡ 0) × NameNone vs

  -- each of the calls is one of such a method on the object of this name
  abbrev pub AreLocked : File → ℕ → ℕ → ℕ → List ProgramCall → Type 0
  AreLocked file c f name [] = Unit {0}
  AreLocked file c f name (Making n class text values ∷ cs) = ⊥
  AreLocked file c f name (Calling n m text result values ∷ cs) =
      (n ≡ name) × IsLocked file c f m × NameNone values × AreLocked file c f name cs

-- the setup makes an object, and all other calls lock this field of the object round their bodies
pub record RunsLocked (file : File) (program : Program) : Type 0 where
  -- the methods that bodies call on the object, and on others
  pub own : ℕ → Bool
  pub others : ℕ → Bool
  pub makes : ℕ → Bool
  pub plain : AreHelpers (IsCallee own others makes) file
  pub name : ℕ
  pub class : ℕ
  pub field : ℕ
  pub clean : AreCleanMethods (IsOnThis own others makes) (IsHelp own others makes) field file
  pub text : List ℕ
  pub values : List Value
  pub null : NameNone own others makes values
  pub more : List ProgramCall
  pub setup : calls_in (slice_get program.threads 0) ≡ Making name class text values ∷ more
  pub known : name < length program.names
  pub constructor : IsLocking own others makes file class field
  pub callee : IsCallee own others makes (constructor_of file.classes class)
  pub locked : AreLocked own others makes file class field name more
  pub calls : (t : ℕ) → t ≢ 0 → AreLocked own others makes file class field name
      (calls_in (slice_get program.threads t))

-- then the history of each schedule, of any length, is linearizable
abbrev pub AllLocked : Type 0
AllLocked =
    (file : File) (program : Program) → RunsLocked file program → (schedule : List ℕ) →
    IsLinearizable file program (source_history file program schedule)

-- and where no thread acts, none waits
abbrev pub NoneWaitLocked : Type 0
NoneWaitLocked = (file : File) (program : Program) → RunsLocked file program → NoThreadWaits file program
