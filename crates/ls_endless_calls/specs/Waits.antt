-- Calls that wait, and whether they wait so in calls that run one at a time.
use Rattle.std.specs.Prelude.{◌≡◌, ℕ, List, [], ◌∷◌, ◌++◌, Contains, Some, slice_get, take}
use Rattle.ls_events.specs.declared.event.Event.{Event}
use Rattle.ls_serial.specs.Serial.{AreEnded, Explains, IsCall, IsEndOf}

-- the call has begun, and it hasn't ended
pub record IsPending (h : List Event) (c : Event) : Type 0 where
  pub there : Contains h c
  pub is_call : IsCall c
  pub pending : (e : Event) → Contains h e → IsEndOf c e → ⊥

-- it stands at this place
abbrev pub IsPendingAt : List Event → ℕ → Type 0
IsPendingAt h place = (c : Event) × (slice_get h place ≡ Some c) × IsPending h c

-- These calls, one after another, explain what has ended in h, and no other call of h has ended in them.
pub record ExplainsAlone (before h : List Event) : Type 0 where
  pub explains : Explains before h
  pub ended : AreEnded before h

-- the run is such calls, and then this call
pub record IsRunTo (run h : List Event) (c : Event) : Type 0 where
  pub before : List Event
  pub is : run ≡ before ++ c ∷ []
  pub alone : ExplainsAlone before h

-- one of the runs is
pub record IsRunAmong (runs : List (List Event)) (h : List Event) (c : Event) : Type 0 where
  pub run : List Event
  pub there : Contains runs run
  pub to : IsRunTo run h c

-- each call that is pending is the last of one of the runs
abbrev pub AreExcused : List (List Event) → List Event → Type 0
AreExcused runs h = (c : Event) → IsPending h c → IsRunAmong runs h c

-- so is the one at this place, if it is pending
abbrev pub IsExcusedAt : List (List Event) → List Event → ℕ → Type 0
IsExcusedAt runs h place =
    (c : Event) → slice_get h place ≡ Some c → IsPending h c → IsRunAmong runs h c

-- the call at this place is pending, and isn't the last of one
pub record IsUnexcused (runs : List (List Event)) (h : List Event) (place : ℕ) : Type 0 where
  pub call : Event
  pub at : slice_get h place ≡ Some call
  pub pending : IsPending h call
  pub unexcused : IsRunAmong runs h call → ⊥

-- what ended before a call that stands at both places ended before it in g
abbrev pub KeepsPair : List Event → ℕ → List Event → ℕ → Type 0
KeepsPair g j h i =
    (c : Event) → slice_get h i ≡ Some c → slice_get g j ≡ Some c → AreEnded (take i h) (take j g)

-- what ended before the call at this place of h ended before it in g
abbrev pub KeepsAt : List Event → List Event → ℕ → Type 0
KeepsAt g h i = (c : Event) (j : ℕ) → IsCall c → slice_get h i ≡ Some c → slice_get g j ≡ Some c →
    AreEnded (take i h) (take j g)
