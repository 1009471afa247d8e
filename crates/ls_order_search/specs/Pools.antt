-- The open calls, found by what they do to the set and by where they end.
use Rattle.std.specs.Prelude.{◌≡◌, ◌≤◌, ℕ, ℤ, Bool, false, not, Option, Some, None, is_some, option_map, unwrap_or}
use Rattle.std.specs.Prelude.{◌&&◌, IsSome, if◌then◌else◌, ◌++◌, ◌∷◌}
use Rattle.std.specs.BTreeMap.{BTreeMap, get}
use Rattle.std.specs.BTreeMap.Range.{IsLeBy}
use Rattle.std.specs.Ordering.{bool_cmp, int_cmp, nat_cmp, ordering_then}
use Rattle.std.specs.declared.cmp.Ordering.{Ordering}
use Rattle.ls_orders.specs.declared.calls.End.{End}
use Rattle.ls_orders.specs.declared.calls.End.TheVariants.{Pending, Returned, Trapped}
use Rattle.ls_orders.specs.declared.calls.SetCall.{SetCall}
use Rattle.ls_orders.specs.Rules.{ended_before}
use Rattle.ls_order_search.specs.declared.pool.Ending.{Ending}
use Rattle.ls_order_search.specs.declared.pool.Pool.{Pool}
use Rattle.ls_order_search.specs.declared.pool.Turn.{Turn}
use Rattle.ls_order_search.specs.Plans.{Among, Distinct, turns, wanted}
use Rattle.ls_order_search.specs.Search.{Calls, Choice, Closed, Passed, ends_at}
use Rattle.ls_orders.specs.Legal.{Set}

-- ---- the keys

-- the place of the return or trap
abbrev pub place_of : End → Option ℕ
place_of Pending = None
place_of (Trapped at) = Some at
place_of (Returned at reply) = Some at

-- the end of a call that changes the set
abbrev pub end_if : Bool → Option ℕ → ℕ
end_if changes place = if changes then unwrap_or place 0 else 0

-- what the call does where its item is present or absent, as `present` says
abbrev pub turn_at : SetCall → Bool → Turn
turn_at c present = record {
  item = c.item;
  present = present;
  turns = turns c.operation present;
  pending = turns c.operation present && not (is_some (place_of c.end));
  end = end_if (turns c.operation present) (place_of c.end);
  called = c.called;
}

-- none of a call that can't be placed
abbrev pub turn_of : SetCall → Option Turn
turn_of c = option_map (turn_at c) (wanted c)

-- none of a pending call
abbrev pub ending_of : SetCall → Option Ending
ending_of c = option_map (λ at. record { at = at; called = c.called }) (place_of c.end)

-- Of the calls on an item that is present, or absent, first those that change nothing, by their calls. Then the others
-- by their ends, pending calls last.
abbrev pub turn_cmp : Turn → Turn → Ordering
turn_cmp a b = ordering_then (int_cmp a.item b.item) (ordering_then (bool_cmp a.present b.present)
    (ordering_then (bool_cmp a.turns b.turns) (ordering_then (bool_cmp a.pending b.pending)
    (ordering_then (nat_cmp a.end b.end) (nat_cmp a.called b.called)))))

abbrev pub ending_cmp : Ending → Ending → Ordering
ending_cmp a b = ordering_then (nat_cmp a.at b.at) (nat_cmp a.called b.called)

-- the first key at most of each call on the item
abbrev pub first_turn : ℤ → Bool → Turn
first_turn item present =
    record { item = item; present = present; turns = false; pending = false; end = 0; called = 0 }

abbrev pub first_ending : ℕ → Ending
first_ending at = record { at = at; called = 0 }

-- ---- the maps

-- The map has each call that has a key, by that key, and no others.
pub record Indexed {K : Type 0} (R : K → K → Ordering) (key : SetCall → Option K) (m : BTreeMap K SetCall)
    (open' : Calls) : Type 0 where
  pub has : (c : SetCall) (k : K) → Among c open' → key c ≡ Some k → get R m k ≡ Some c
  pub only : (k : K) (c : SetCall) → get R m k ≡ Some c → Among c open' × (key c ≡ Some k)

-- the pool holds these calls
pub record Holds (pool : Pool) (calls : Calls) : Type 0 where
  pub distinct : Distinct calls
  pub turns : Indexed turn_cmp turn_of pool.turns calls
  pub ends : Indexed ending_cmp ending_of pool.ends calls

-- of the keys from a start on, the first, with its call
pub record IsFirst {K : Type 0} (R : K → K → Ordering) (m : BTreeMap K SetCall) (start : K) (e : K × SetCall) : Type 0
  where
    pub from : IsLeBy R start e.0
    pub there : get R m e.0 ≡ Some e.1
    pub least : (q : K) → IsLeBy R start q → IsSome (get R m q) → IsLeBy R e.0 q

-- ---- what is found

-- the call is placed next, and the pool holds the others
pub record Taken (item : ℤ) (was : Bool) (pool : Pool) (calls : Calls) (c : SetCall) : Type 0 where
  pub front : Calls
  pub back : Calls
  pub among : calls ≡ front ++ c ∷ back
  pub chosen : Choice item was calls c
  pub holds : Holds pool (front ++ back)

-- From a set and the open calls, some calls are placed. The pool holds the others, of which none ends at the place.
pub record ClosesTo (at : ℕ) (s t : Set) (calls : Calls) (pool : Pool) (old new : Calls) : Type 0 where
  pub less : Calls
  pub holds : Holds pool less
  pub closed : Closed at s t calls less old new
  pub none : (c : SetCall) → Among c less → ends_at at c.end ≡ false

-- the same, to a later place before which no call that is left ends
pub record PassedTo (at end events : ℕ) (s t : Set) (calls : Calls) (pool : Pool) (old new : Calls) (to : ℕ) : Type 0
  where
    pub less : Calls
    pub holds : Holds pool less
    pub passed : Passed at end events s t calls less old new to

-- of the calls that end at a place or later, the first to end
pub record EndsNext (from' : ℕ) (calls : Calls) (c : SetCall) : Type 0 where
  pub among : Among c calls
  pub place : ℕ
  pub from : from' ≤ place
  pub ends : place_of c.end ≡ Some place
  pub least : (d : SetCall) → Among d calls → ended_before d.end from' ≡ false → ended_before d.end place ≡ false
