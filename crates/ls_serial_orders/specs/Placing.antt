-- Calls of a history, placed one behind another along the states of a table.
use Rattle.std.specs.Prelude.{◌≡◌, ◌⊎◌, ℕ, List, [], ◌∷◌, ◌++◌, Some, Contains, slice_get, take}
use Rattle.std.specs.declared.vec.Vec.{Vec}
use Rattle.std.specs.declared.alloc.Global.{Global}
use Rattle.ls_events.specs.declared.event.Event.{Event}
use Rattle.ls_serial.specs.Serial.{AreCalled, AreEnded, Explains, IsEnd, IsEndOf, KeepsOrder}
use Rattle.ls_serial_search.specs.Following.{called}
use Rattle.ls_automaton.specs.declared.outcome.Outcome.{Outcome}
use Rattle.ls_automaton.specs.Automaton.{Serially}
use Rattle.ls_automaton.specs.Held.{row_of}
use Rattle.ls_automaton.specs.Tables.{Goes}
use Rattle.ls_serial_orders.specs.declared.placing.Placed.{Placed}

-- the calls of these ends, one after another, each with its end
abbrev pub run_of : List Event → List Event
run_of [] = []
run_of (e ∷ ends) = called e.thread e.call ∷ e ∷ run_of ends

-- ---- which call may be placed

-- each end that stands before the call in the history is one of these
abbrev pub IsDue : List Event → List Event → Event → Type 0
IsDue h ends c = (i : ℕ) → slice_get h i ≡ Some c → AreEnded (take i h) ends

-- if the event is an end of the same call, it is this end
abbrev pub Agrees : Event → Event → Type 0
Agrees e f = IsEndOf (called e.thread e.call) f → e ≡ f

abbrev pub HasNoOther : List Event → Event → Type 0
HasNoOther h e = (f : Event) → Contains h f → Agrees e f

-- Behind the calls of these ends that of another end may be placed: it is called in the history, where it has no other
-- end, and what ended before it is placed.
abbrev pub MayCome : List Event → List Event → Event → Type 0
MayCome h ends e = IsEnd e × Contains h (called e.thread e.call) × HasNoOther h e ×
    IsDue h ends (called e.thread e.call)

-- ---- one call more

-- it leaves this state, and these ends are among its own
pub record IsLike (p : Placed) (state : ℕ) (ends : List Event) : Type 0 where
  pub leaves : p.state ≡ state
  pub among : (e : Event) → Contains ends e → Contains p.ends.items e

pub record HasLike (layer : List Placed) (state : ℕ) (ends : List Event) : Type 0 where
  pub placed : Placed
  pub there : Contains layer placed
  pub like : IsLike placed state ends

-- the call of this outcome, which may be placed, is the last of these calls
pub record IsStep (h : List Event) (p : Placed) (o : Outcome) (q : Placed) : Type 0 where
  pub may : MayCome h p.ends.items o.end
  pub state : q.state ≡ o.after
  pub ends : q.ends.items ≡ p.ends.items ++ o.end ∷ []

-- the call of this outcome is placed, if it may be
abbrev pub IsTried : List Event → Placed → List Placed → Outcome → Type 0
IsTried h p new o = MayCome h p.ends.items o.end → HasLike new o.after (p.ends.items ++ o.end ∷ [])

abbrev pub AreKept : List Placed → List Placed → Type 0
AreKept old new = (q : Placed) → Contains old q → Contains new q

-- what comes of an outcome is added
pub record IsAdded (h : List Event) (p : Placed) (o : Outcome) (old new : List Placed) : Type 0 where
  pub kept : AreKept old new
  pub came : (q : Placed) → Contains new q → Contains old q ⊎ IsStep h p o q
  pub there : IsTried h p new o

-- of one of these outcomes
pub record ComesOf (h : List Event) (p : Placed) (row : List Outcome) (q : Placed) : Type 0 where
  pub outcome : Outcome
  pub there : Contains row outcome
  pub step : IsStep h p outcome q

-- what comes of each of these outcomes is added
pub record IsRowAdded (h : List Event) (p : Placed) (row : List Outcome) (old new : List Placed) : Type 0 where
  pub kept : AreKept old new
  pub came : (q : Placed) → Contains new q → Contains old q ⊎ ComesOf h p row q
  pub there : (o : Outcome) → Contains row o → IsTried h p new o

-- ---- layers

abbrev pub row_after : List (Vec Outcome Global) → Placed → List Outcome
row_after rows p = row_of (slice_get rows p.state)

pub record ComesFrom (rows : List (Vec Outcome Global)) (h : List Event) (layer : List Placed) (q : Placed) : Type 0
  where
    pub placed : Placed
    pub there : Contains layer placed
    pub comes : ComesOf h placed (row_after rows placed) q

-- what comes of each call that may be placed behind those of a layer
pub record IsNext (rows : List (Vec Outcome Global)) (h : List Event) (layer next : List Placed) : Type 0 where
  pub came : (q : Placed) → Contains next q → ComesFrom rows h layer q
  pub there : (p : Placed) → Contains layer p → (o : Outcome) → Contains (row_after rows p) o → IsTried h p next o

-- nothing is placed
pub record IsFirstLayer (layer : List Placed) : Type 0 where
  pub placed : Placed
  pub is : layer ≡ placed ∷ []
  pub state : placed.state ≡ 0
  pub ends : placed.ends.items ≡ []

-- the run is that of calls of the layer among which each is that ended in the history
pub record HasRun (h : List Event) (layer : List Placed) (run : List Event) : Type 0 where
  pub placed : Placed
  pub there : Contains layer placed
  pub ended : AreEnded h placed.ends.items
  pub is : run ≡ run_of placed.ends.items

abbrev pub NoneFinished : List Event → List Placed → Type 0
NoneFinished h layer = (p : Placed) → Contains layer p → AreEnded h p.ends.items → ⊥

-- ---- runs

-- the calls lead to the state, and stand in the history so that they may explain it
pub record IsPlaced (rows : List (Vec Outcome Global)) (h ends : List Event) (state : ℕ) : Type 0 where
  pub serially : Serially (Goes rows) 0 (run_of ends) state
  pub called : AreCalled (run_of ends) h
  pub order : KeepsOrder (run_of ends) h

abbrev pub ArePlaced : List (Vec Outcome Global) → List Event → List Placed → Type 0
ArePlaced rows h layer = (p : Placed) → Contains layer p → IsPlaced rows h p.ends.items p.state

-- the run goes along the table, and explains the history
pub record ExplainsBy (rows : List (Vec Outcome Global)) (h run : List Event) : Type 0 where
  pub last : ℕ
  pub serially : Serially (Goes rows) 0 run last
  pub explains : Explains run h
