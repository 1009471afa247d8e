-- Which bodies are a lock, what is guarded, and the unlock.
use Rattle.std.specs.Prelude.{◌≡◌, ◌≢◌, ◌⊎◌, ◌<◌, ℕ, true, List}
use Rattle.ls_checked.specs.declared.tree.Called.TheVariants.{LockIt, UnlockIt, HoldMonitor, FreeMonitor}
use Rattle.ls_checked.specs.CheckedTree.{Class, Expression, Field, Slot, Call, MakeLock, End, Statement, Statements}
use Rattle.ls_checked.specs.CheckedTree.{Block, Then, Done, Evaluate, Try, SetSlot, SetField}
use Rattle.ls_one_at_a_time.specs.Inner.{RunsPlain, RunPlain}
use Rattle.ls_one_at_a_time.specs.Clean.{RunsClean, RunClean}
use Rattle.ls_one_at_a_time.specs.Locked.{IsSilent, IsAfter}

-- ---- monitors

abbrev pub hold_monitor : ℕ → ℕ → Statement
hold_monitor slot class = Evaluate (Call (Slot slot) (HoldMonitor class) End)

abbrev pub free_monitor : ℕ → ℕ → Statement
free_monitor slot class = Evaluate (Call (Slot slot) (FreeMonitor class) End)

module _ (Helps : ℕ → Type 0) (classes : List Class) where
  -- something plain, after which the monitor is freed
  pub record IsFreed (slot class : ℕ) (s : Statement) : Type 0 where
    pub inner : Statement
    pub is : s ≡ Try inner (free_monitor slot class)
    pub plain : RunsPlain Helps classes slot inner

  -- nothing else follows
  pub record IsFreedRun (slot class : ℕ) (ss : Statements) : Type 0 where
    pub round : Statement
    pub is : ss ≡ Then round Done
    pub freed : IsFreed slot class round

  -- the monitor of what the slot holds is taken before
  pub record IsHeldRun (slot : ℕ) (ss : Statements) : Type 0 where
    pub class : ℕ
    pub rest : Statements
    pub is : ss ≡ Then (hold_monitor slot class) rest
    pub freed : IsFreedRun slot class rest

  -- the slot is set to `this` before: statements of a synchronized block on `this`
  pub record IsMonitorRun (slots : ℕ) (ss : Statements) : Type 0 where
    pub slot : ℕ
    pub rest : Statements
    pub is : ss ≡ Then (SetSlot slot (Slot 0)) rest
    pub within : slot < slots
    pub held : IsHeldRun slot rest

  pub record IsMonitorInner (slots : ℕ) (s : Statement) : Type 0 where
    pub run : Statements
    pub is : s ≡ Block run
    pub monitor : IsMonitorRun slots run

  pub record IsMonitorBlock (slots : ℕ) (ss : Statements) : Type 0 where
    pub only : Statement
    pub is : ss ≡ Then only Done
    pub monitor : IsMonitorInner slots only

  pub record IsMonitorBody (slots : ℕ) (s : Statement) : Type 0 where
    pub block : Statements
    pub is : s ≡ Block block
    pub monitor : IsMonitorBlock slots block

-- ---- a lock in a field

abbrev pub lock_field : ℕ → ℕ → Statement
lock_field c f = Evaluate (Call (Field (Slot 0) c f) LockIt End)

abbrev pub unlock_field : ℕ → ℕ → Statement
unlock_field c f = Evaluate (Call (Field (Slot 0) c f) UnlockIt End)

abbrev pub IsSetting : Statement → Type 0
IsSetting (SetSlot n e) = (0 ≢ n) × IsSilent e
IsSetting _ = ⊥

pub record IsFieldSetting (s : Statement) : Type 0 where
  pub field : ℕ
  pub value : Expression
  pub is : s ≡ SetField (Slot 0) field value
  pub silent : IsSilent value

module _ (Calls OnThis Helps : ℕ → Type 0) (classes : List Class) (c f : ℕ) where
  pub record IsUnlocked (s : Statement) : Type 0 where
    pub inner : Statement
    pub is : s ≡ Try inner (Block (Then (unlock_field c f) Done))
    pub plain : RunsPlain Calls classes 0 inner
    pub clean : RunsClean OnThis Helps classes f true inner

  abbrev pub IsRound : Statements → Type 0
  IsRound Done = ⊥
  IsRound (Then s ss) = IsUnlocked s × IsAfter ss

  -- locals are set, the lock is taken, something is tried, and it is given back
  abbrev pub IsGuardedRun : Statements → Type 0
  IsGuardedRun Done = ⊥
  IsGuardedRun (Then s ss) = ((s ≡ lock_field c f) × IsRound ss) ⊎ (IsSetting s × IsGuardedRun ss)

  pub record IsGuardedBody (s : Statement) : Type 0 where
    pub run : Statements
    pub is : s ≡ Block run
    pub guarded : IsGuardedRun run

  -- fields are set, the lock is made, and the rest is clean
  abbrev pub IsMakingRun : Statements → Type 0
  IsMakingRun Done = ⊥
  IsMakingRun (Then s ss) =
      ((s ≡ SetField (Slot 0) f MakeLock) × RunPlain Calls classes 0 ss × RunClean OnThis Helps classes f true ss)
      ⊎ (IsFieldSetting s × IsMakingRun ss)

  pub record IsMakingBody (s : Statement) : Type 0 where
    pub run : Statements
    pub is : s ≡ Block run
    pub making : IsMakingRun run
