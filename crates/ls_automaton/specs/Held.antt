-- The pairs of an observer as lists, event by event.
use Rattle.std.specs.Prelude.{◌≡◌, ℕ, zero, suc, nat_eq, Bool, true, false, not, ◌&&◌, if◌then◌else◌, nat_lt}
use Rattle.std.specs.Prelude.{List, [], ◌∷◌, ◌++◌, Option, Some, None, is_none, Contains, length, map, slice_get}
use Rattle.std.specs.List.{filter, flat_map, list_any}
use Rattle.std.specs.declared.vec.Vec.{Vec}
use Rattle.std.specs.declared.alloc.Global.{Global}
use Rattle.ls_events.specs.declared.event.Event.{Event}
use Rattle.ls_serial.specs.Serial.{is_called}
use Rattle.ls_linearizable.specs.Judging.{Verdict}
use Rattle.ls_linearizable.specs.Same.{same_event}
use Rattle.ls_automaton.specs.declared.outcome.Outcome.{Outcome}
use Rattle.ls_automaton.specs.declared.pairs.Pair.{Pair}

-- A state by its number, and the calls that are pending there: of one that has taken effect the end, of each other the
-- call.
pub record Held : Type 0 where
  pub state : ℕ
  pub pending : List Event

-- whether these are the numbers of the event's call
abbrev pub is_at : ℕ → ℕ → Event → Bool
is_at t n x = nat_eq t x.thread && nat_eq n x.call

-- what is noted of the call with these numbers
abbrev pub entry_at : List Event → ℕ → ℕ → Option Event
entry_at [] t n = None
entry_at (x ∷ pending) t n = if is_at t n x then Some x else entry_at pending t n

-- whether it is pending and hasn't taken effect
abbrev pub is_open : Option Event → Bool
is_open None = false
is_open (Some x) = is_called x.happening

-- whether it has taken effect
abbrev pub has_taken : Option Event → Bool
has_taken None = false
has_taken (Some x) = not (is_called x.happening)

-- the call has begun: those of lesser threads stand before it
abbrev pub begun : Event → List Event → List Event
begun c pending =
    filter (λ x. nat_lt x.thread c.thread) pending ++ c ∷ filter (λ x. not (nat_lt x.thread c.thread)) pending

abbrev pub begun_held : Event → Held → Held
begun_held c p = record { state = p.state; pending = begun c p.pending }

-- no call begins while it is pending
abbrev pub begins : Event → Held → List Held
begins c p = if is_none (entry_at p.pending c.thread c.call) then begun_held c p ∷ [] else []

-- it has taken effect, with this end
abbrev pub taken : Event → List Event → List Event
taken e pending = map (λ x. if is_at e.thread e.call x then e else x) pending

-- it has ended
abbrev pub ended : Event → List Event → List Event
ended e pending = filter (λ x. not (is_at e.thread e.call x)) pending

-- whether this end is what is noted
abbrev pub is_noted : Event → Option Event → Bool
is_noted e None = false
is_noted e (Some x) = same_event e x

abbrev pub row_of : Option (Vec Outcome Global) → List Outcome
row_of None = []
row_of (Some row) = row.items

-- what the pair becomes with this end, if the call has taken effect with it
abbrev pub kept : Event → Held → List Held
kept e p = if is_noted e (entry_at p.pending e.thread e.call)
    then record { state = p.state; pending = ended e p.pending } ∷ []
    else []

-- whether the outcome is the end of a call that is pending and hasn't taken effect
abbrev pub may_take : Held → Outcome → Bool
may_take p o = is_open (entry_at p.pending o.end.thread o.end.call) && not (is_called o.end.happening)

-- the call takes effect
abbrev pub taking : Held → Outcome → Held
taking p o = record { state = o.after; pending = taken o.end p.pending }

-- so the pair becomes the other
abbrev pub IsTaking : Held → Outcome → Held → Type 0
IsTaking p o q = (may_take p o ≡ true) × (taking p o ≡ q)

-- the outcome leads on, if its call may take effect
abbrev pub further : (Held → List Held) → Held → Outcome → List Held
further more p o = if may_take p o then more (taking p o) else []

module _ (rows : List (Vec Outcome Global)) where
  -- What a pair becomes with this end: calls take effect, at most so many, up to the one that ends, and no further.
  abbrev pub ends : ℕ → Event → Held → List Held
  ends zero e p = kept e p
  ends (suc k) e p = if has_taken (entry_at p.pending e.thread e.call)
      then kept e p
      else flat_map (further (ends k e) p) (row_of (slice_get rows p.state))

  -- what it becomes with this event
  abbrev pub moved : Event → Held → List Held
  moved e p = if is_called e.happening
      then begins e p
      else ends (length p.pending) e p

  -- whether a pair is left after these events
  abbrev pub goes_along : List Event → Held → Bool
  goes_along [] p = true
  goes_along (e ∷ h) p = list_any (goes_along h) (moved e p)

  -- whether none is left of these
  abbrev pub leaves_none : List Held → Verdict
  leaves_none pairs h = not (list_any (goes_along h) pairs)

  -- A pair covers what it becomes where a pending call takes effect. A history that goes along from that goes along
  -- from the pair, too.
  pub record Covers (p q : Held) : Type 0 where
    pub outcome : Outcome
    pub there : Contains (row_of (slice_get rows p.state)) outcome
    pub is : IsTaking p outcome q

  -- one of the pairs covers it
  pub record IsCovered (pairs : List Held) (q : Held) : Type 0 where
    pub pair : Held
    pub there : Contains pairs pair
    pub covers : Covers pair q

  abbrev pub NoneIsCovered : List Held → Type 0
  NoneIsCovered pairs = (q : Held) → Contains pairs q → IsCovered pairs q → ⊥

-- those of pairs in the code
abbrev pub held_of : Pair → Held
held_of p = record { state = p.state; pending = p.pending.items }

abbrev pub helds_of : List Pair → List Held
helds_of pairs = map held_of pairs

abbrev pub AreAmong : List Held → List Held → Type 0
AreAmong pairs others = (p : Held) → Contains pairs p → Contains others p

-- the same pairs, in any order and however often
abbrev pub AreSame : List Held → List Held → Type 0
AreSame pairs others = AreAmong pairs others × AreAmong others pairs

-- nothing has happened
abbrev pub first_held : Held
first_held = record { state = 0; pending = [] }
