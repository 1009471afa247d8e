-- Which bodies are a lock, whatever, and the unlock.
use Rattle.std.specs.Prelude.{◌≡◌, ◌⊎◌, ℕ}
use Rattle.ls_checked.specs.CheckedTree.{Statement, Statements, Block, Then, Done, Try, SetSlot, Slot}
use Rattle.ls_one_at_a_time.specs.Locked.{IsAfter}
use Rattle.ls_guarded.specs.Rounds.{IsSetting, free_monitor, hold_monitor, lock_field, unlock_field}

-- ---- monitors

-- something is tried, and the monitor is freed
pub record HoldsTried (slot class : ℕ) (s : Statement) : Type 0 where
  pub inner : Statement
  pub is : s ≡ Try inner (free_monitor slot class)

-- nothing else follows
pub record HoldsLast (slot class : ℕ) (ss : Statements) : Type 0 where
  pub only : Statement
  pub is : ss ≡ Then only Done
  pub tried : HoldsTried slot class only

-- the monitor of what the slot holds is taken before
pub record HoldsThen (slot : ℕ) (ss : Statements) : Type 0 where
  pub class : ℕ
  pub rest : Statements
  pub is : ss ≡ Then (hold_monitor slot class) rest
  pub last : HoldsLast slot class rest

-- the slot is set to `this` before
pub record HoldsRun (ss : Statements) : Type 0 where
  pub slot : ℕ
  pub rest : Statements
  pub is : ss ≡ Then (SetSlot slot (Slot 0)) rest
  pub held : HoldsThen slot rest

pub record HoldsInner (s : Statement) : Type 0 where
  pub run : Statements
  pub is : s ≡ Block run
  pub held : HoldsRun run

pub record HoldsBlock (ss : Statements) : Type 0 where
  pub only : Statement
  pub is : ss ≡ Then only Done
  pub held : HoldsInner only

-- a synchronized block on `this` as a whole (JLS 14.19)
pub record HoldsMonitor (s : Statement) : Type 0 where
  pub block : Statements
  pub is : s ≡ Block block
  pub held : HoldsBlock block

-- ---- the lock in field f of `this`, an object of class c

module _ (c f : ℕ) where
  -- something is tried, and the lock is given back
  pub record LocksTried (s : Statement) : Type 0 where
    pub inner : Statement
    pub is : s ≡ Try inner (Block (Then (unlock_field c f) Done))

  abbrev pub LocksRound : Statements → Type 0
  LocksRound Done = ⊥
  LocksRound (Then s ss) = LocksTried s × IsAfter ss

  -- locals are set, and the lock is taken before
  abbrev pub LocksRun : Statements → Type 0
  LocksRun Done = ⊥
  LocksRun (Then s ss) = ((s ≡ lock_field c f) × LocksRound ss) ⊎ (IsSetting s × LocksRun ss)

  pub record HoldsLock (s : Statement) : Type 0 where
    pub run : Statements
    pub is : s ≡ Block run
    pub locked : LocksRun run
