-- Serial histories, and which histories they explain.
use Rattle.std.specs.Prelude.{◌≡◌, ℕ, Bool, true, false, List, [], ◌∷◌, Some, Contains, slice_get, take}
use Rattle.ls_events.specs.Beginnings.{IsBeginning}
use Rattle.ls_events.specs.declared.event.Event.{Event}
use Rattle.ls_events.specs.declared.event.Happening.{Happening}
use Rattle.ls_events.specs.declared.event.Happening.TheVariants.{Called, Returned, Trapped}

abbrev pub is_called : Happening → Bool
is_called Called = true
is_called (Returned value) = false
is_called (Trapped kind) = false

abbrev pub IsCall : Event → Type 0
IsCall e = is_called e.happening ≡ true

-- a return or a trap
abbrev pub IsEnd : Event → Type 0
IsEnd e = is_called e.happening ≡ false

-- the end of this call
pub record IsEndOf (c e : Event) : Type 0 where
  pub ends : IsEnd e
  pub thread : e.thread ≡ c.thread
  pub call : e.call ≡ c.call

-- calls run one at a time: each call is directly followed by its return or its trap
abbrev pub IsSerial : List Event → Type 0
IsSerial [] = Unit {0}
IsSerial (c ∷ []) = ⊥
IsSerial (c ∷ e ∷ rest) = IsCall c × IsEndOf c e × IsSerial rest

-- each end in h is in g
abbrev pub AreEnded : List Event → List Event → Type 0
AreEnded h g = (e : Event) → Contains h e → IsEnd e → Contains g e

-- each call in g is in h
abbrev pub AreCalled : List Event → List Event → Type 0
AreCalled g h = (c : Event) → Contains g c → IsCall c → Contains h c

-- what ended before a call in h ended before it in g
abbrev pub KeepsOrder : List Event → List Event → Type 0
KeepsOrder g h =
    (c : Event) (i j : ℕ) → IsCall c → slice_get h i ≡ Some c → slice_get g j ≡ Some c →
    AreEnded (take i h) (take j g)

-- The calls that ended in h ended so in g, with the same answers. The calls in g were called in h: those that are
-- pending there may have ended in g, or not be there. And g keeps the order of calls of which one had ended when the
-- other was called.
pub record Explains (g h : List Event) : Type 0 where
  pub ended : AreEnded h g
  pub called : AreCalled g h
  pub order : KeepsOrder g h

-- g is a serial history that the run begins with, and explains h
pub record ExplainsFrom (run g h : List Event) : Type 0 where
  pub begins : IsBeginning g run
  pub serial : IsSerial g
  pub explains : Explains g h

abbrev pub IsExplained : List Event → List Event → Type 0
IsExplained run h = (g : List Event) × ExplainsFrom run g h

-- one of the runs begins so
pub record HaveBeginning (runs : List (List Event)) (g : List Event) : Type 0 where
  pub run : List Event
  pub there : Contains runs run
  pub begins : IsBeginning g run

-- g is a serial history that one of the runs begins with, and explains h
pub record ExplainsAmong (runs : List (List Event)) (g h : List Event) : Type 0 where
  pub begun : HaveBeginning runs g
  pub serial : IsSerial g
  pub explains : Explains g h

abbrev pub IsExplainedBy : List (List Event) → List Event → Type 0
IsExplainedBy runs h = (g : List Event) × ExplainsAmong runs g h
