-- A lock of an object, as runs see it: who has it, what takes it and gives it back; and the course of a call that has
-- it round its whole body.
use Rattle.std.proofs.Common.{◌≡◌, ◌≢◌, ◌⊎◌, ℕ, suc, ◌<◌, [], ◌∷◌, ◌++◌, None}
use Rattle.ls_events.specs.declared.value.Value.{Value}
use Rattle.ls_events.specs.declared.action.Action.{Action}
use Rattle.ls_events.specs.declared.action.Action.TheVariants as act
use Rattle.ls_events.specs.declared.action.Answer.{Answer}
use Rattle.ls_events.specs.declared.action.Answer.TheVariants.{Done}
use Rattle.ls_checked.specs.CheckedTree.{File}
use Rattle.ls_checked.specs.CheckedProgram.{Program, ProgramCall}
use Rattle.ls_meaning.specs.declared.sort.Sort.{Sort}
use Rattle.ls_meaning.specs.declared.sort.Sort.TheVariants.{NoValue}
use Rattle.ls_meaning.specs.Course.{Answers, Asks}
use Rattle.ls_meaning.specs.Store.{Store}
use Rattle.ls_meaning.specs.Effect.{Waits, Does, effect}
use Rattle.ls_meaning.specs.Threads.{one_call}
use Rattle.ls_meaning.specs.Runs.{event_of}
use Rattle.ls_one_at_a_time.proofs.Guarded.{EndsSo}

module _ (file : File) (program : Program) where
  -- an action of the thread is done, and then this holds of the store
  pub record IsTurn (s : Store) (t : ℕ) (a : Action Value) (After : Store → Type 0) : Type 0 where
    pub store : Store
    pub does : effect file.classes s t a ≡ Does store Done
    pub after : After store

  -- the lock; and how a body stands after answers, which only the bodies' own courses know
  pub record Kit : Type 1 where
    pub Idle : Store → Type 0
    pub Has : ℕ → Store → Type 0
    pub lock : Action Value
    pub unlock : Action Value
    pub lock_silent : (t : ℕ) → event_of t lock ≡ None
    pub unlock_silent : (t : ℕ) → event_of t unlock ≡ None
    pub takes : (s : Store) (t : ℕ) → Idle s → IsTurn s t lock (Has t)
    pub frees : (s : Store) (t : ℕ) → Has t s → IsTurn s t unlock Idle
    pub waits : (s : Store) (u t : ℕ) → u ≢ t → Has u s → effect file.classes s t lock ≡ Waits
    pub Body : Type 0
    pub Stands : Body → Answers → Type 0

  module _ (k : Kit) where
    -- whoever has the lock
    abbrev pub IsGood : Store → Type 0
    IsGood s = k.Idle s ⊎ ((u : ℕ) × k.Has u s)

    module _ (n : ℕ) (c : ProgramCall) where
      -- an action before the lock, which only reads what is always the same
      pub record IsEntry (before : ℕ → Answers) (i : ℕ) : Type 0 where
        pub action : Action Value
        pub sort : Sort
        pub answer : Answer Value
        pub asks : one_call file program n c (before i) ≡ Asks action sort
        pub does : (s : Store) (t : ℕ) → IsGood s → effect file.classes s t action ≡ Does s answer
        pub silent : (t : ℕ) → event_of t action ≡ None
        pub more : before i ++ answer ∷ [] ≡ before (suc i)

      module _ (b : k.Body) (held : Answers → Answers) (q : Answers) where
        -- the body asks for an action, after which it stands again
        pub record IsAsking : Type 0 where
          pub action : Action Value
          pub sort : Sort
          pub asks : one_call file program n c (held q) ≡ Asks action sort
          pub silent : (t : ℕ) → event_of t action ≡ None
          pub acts : (s : Store) (t : ℕ) → effect file.classes s t action ≡ Waits → ⊥
          pub goes : (s store : Store) (t : ℕ) (x : Answer Value) → k.Has t s →
              effect file.classes s t action ≡ Does store x → k.Has t store × k.Stands b (q ++ x ∷ [])

        -- the body has completed
        pub record IsClosing : Type 0 where
          pub asks : one_call file program n c (held q) ≡ Asks k.unlock NoValue
          pub ends : EndsSo (λ rest. one_call file program n c (held (q ++ Done ∷ rest)))

      -- the course of a call that has the lock round its whole body
      pub record IsGuarded : Type 0 where
        pub body : k.Body
        pub last : ℕ
        pub before : ℕ → Answers
        pub begins : before 0 ≡ Done ∷ []
        pub call : one_call file program n c [] ≡ Asks (act.Call n) NoValue
        pub entry : (i : ℕ) → i < last → IsEntry before i
        pub locks : one_call file program n c (before last) ≡ Asks k.lock NoValue
        pub first : k.Stands body []
        pub stands : (q : Answers) → k.Stands body q →
            IsAsking body (λ r. before last ++ Done ∷ r) q ⊎ IsClosing body (λ r. before last ++ Done ∷ r) q
