-- The steps of the search.
use Rattle.std.specs.Prelude.{◌≡◌, ◌==◌, ◌⊎◌, ◌++◌, ◌<◌, ◌≤◌, ℕ, ℤ, Bool, true, false, not, List, [], ◌∷◌, Some}
use Rattle.std.specs.Prelude.{length, slice_index_or, drop, filter, take, ◌||◌}
use Rattle.std.specs.BTreeSet.{BTreeSet, contains}
use Rattle.std.specs.Ordering.{int_cmp, int_eq}
use Rattle.ls_orders.specs.declared.calls.SetCall.{SetCall}
use Rattle.ls_orders.specs.declared.calls.End.{End}
use Rattle.ls_orders.specs.declared.calls.End.TheVariants.{Pending, Returned, Trapped}
use Rattle.ls_orders.specs.Rules.{ended_before}
use Rattle.ls_orders.specs.Places.{is_marked}
use Rattle.ls_orders.specs.Legal.{Set, empty}
use Rattle.ls_order_search.specs.Trapped.{is_trapped}
use Rattle.ls_order_search.specs.Plans.{Among, Distinct, IsPlan, has_end, turns, wanted}

abbrev pub Calls : Type 0
Calls = List SetCall

-- the set that the tree holds
abbrev pub held : BTreeSet ℤ → Set
held tree item = contains int_cmp tree item

abbrev pub HasPlan : Set → Calls → Type 0
HasPlan s rest = (p : Calls) × IsPlan s rest p

-- ---- the choice of a call

-- if d has not come yet, e has not come yet
abbrev pub NoLater : End → End → Type 0
NoLater d e = (n : ℕ) → ended_before d n ≡ false → ended_before e n ≡ false

-- the call may come next, if its item is present or absent as `was` says
pub record Fits (item : ℤ) (was : Bool) (c : SetCall) : Type 0 where
  pub item_is : c.item ≡ item
  pub wants : wanted c ≡ Some was

pub record Keeps (item : ℤ) (was : Bool) (c : SetCall) : Type 0 where
  pub fits : Fits item was c
  pub same : turns c.operation was ≡ false

pub record Turns (item : ℤ) (was : Bool) (c : SetCall) : Type 0 where
  pub fits : Fits item was c
  pub changes : turns c.operation was ≡ true

-- among the calls that change the set, the first to end
pub record Best (item : ℤ) (was : Bool) (pool : Calls) (x : SetCall) : Type 0 where
  pub turn : Turns item was x
  pub least : (c : SetCall) → Among c pool → Turns item was c → NoLater x.end c.end

-- A call that changes nothing. If there is none, then among the calls that change the set, the first to end.
abbrev pub Choice : ℤ → Bool → Calls → SetCall → Type 0
Choice item was pool x = Keeps item was x ⊎ (((c : SetCall) → Among c pool → Keeps item was c → ⊥) ×
    Best item was pool x)

-- ---- a place of the history

abbrev pub CalledAfter : ℕ → Calls → Type 0
CalledAfter at rest = (c : SetCall) → Among c rest → at < c.called

abbrev pub CalledFrom : ℕ → Calls → Type 0
CalledFrom at rest = (c : SetCall) → Among c rest → at ≤ c.called

abbrev pub CalledBy : ℕ → Calls → Type 0
CalledBy at pool = (c : SetCall) → Among c pool → c.called ≤ at

abbrev pub ends_at : ℕ → End → Bool
ends_at at Pending = false
ends_at at (Trapped m) = m == at
ends_at at (Returned m reply) = m == at

-- no call of the pool ended before
abbrev pub LastUntil : ℕ → Calls → Type 0
LastUntil at pool = (c : SetCall) → Among c pool → ended_before c.end at ≡ false

-- each call ends after it was called
abbrev pub Lasting : Calls → Type 0
Lasting rest = (c : SetCall) → Among c rest → ended_before c.end c.called ≡ false

-- the calls on some items
abbrev pub on_items : (ℤ → Bool) → Calls → Calls
on_items p calls = filter (λ c. p c.item) calls

-- the item alone
abbrev pub is_item : ℤ → ℤ → Bool
is_item item = λ z. int_eq z item

-- From a set and the open calls, some calls are placed. Take any calls that come later, and any items. If there was a
-- plan of the calls on these items, there still is one. And a plan of the calls that are left is a plan of all, after
-- the calls that are placed.
pub record Goes (at : ℕ) (s t : Set) (pool less placed : Calls) : Type 0 where
  pub plan : (p : ℤ → Bool) (rest : Calls) →
      Distinct (pool ++ rest) →
      CalledAfter at rest →
      CalledBy at pool →
      HasPlan s (on_items p (pool ++ rest)) →
      HasPlan t (on_items p (less ++ rest))
  pub distinct : (rest : Calls) → Distinct (pool ++ rest) → Distinct (less ++ rest)
  pub among : (c : SetCall) → Among c less → Among c pool
  pub back : (rest : Calls) →
      Distinct (pool ++ rest) →
      CalledAfter at rest →
      CalledBy at pool →
      LastUntil at pool →
      Lasting rest →
      (p : Calls) →
      IsPlan t (less ++ rest) p →
      IsPlan s (pool ++ rest) (placed ++ p)

abbrev pub Closed : ℕ → Set → Set → Calls → Calls → Calls → Calls → Type 0
Closed at s t pool less old new = (placed : Calls) × (new ≡ old ++ placed) × Goes at s t pool less placed

-- The place is passed, to a later one before which no call of the pool ends, if none ended before the place or before
-- `end`.
pub record Passed (at end events : ℕ) (s t : Set) (pool less old new : Calls) (to : ℕ) : Type 0 where
  pub later : at < to
  pub within : to ≤ events
  pub closed : Closed at s t pool less old new
  pub lasts : LastUntil at pool → LastUntil end pool → LastUntil to less

-- whatever comes later, there is an item for which the calls have no plan
abbrev pub Stuck : ℕ → Set → Calls → Type 0
Stuck at s pool = (item : ℤ) × ((rest : Calls) → Distinct (pool ++ rest) → CalledAfter at rest → CalledBy at pool →
    HasPlan s (on_items (is_item item) (pool ++ rest)) → ⊥)

abbrev pub NoPlanOn : Calls → Type 0
NoPlanOn calls = (item : ℤ) × (HasPlan empty (on_items (is_item item) calls) → ⊥)

-- ---- the calls of a history

-- in order of their calls
abbrev pub Rising : Calls → Type 0
Rising [] = Unit {0}
Rising (y ∷ ys) = ((x : SetCall) → Among x ys → y.called < x.called) × Rising ys

-- There is no plan of the calls in `front` and those after them, whichever trapped calls among the latter are left
-- out.
abbrev pub NoWay : Calls → Calls → Type 0
NoWay front [] = HasPlan empty front → ⊥
NoWay front (c ∷ cs) = NoWay (front ++ c ∷ []) cs × (is_trapped c.end ≡ true → NoWay front cs)

-- A plan of the calls in `front` and those after them; some trapped calls among the latter may be left out.
abbrev pub Way : Calls → Calls → Calls → Type 0
Way front [] p = IsPlan empty front p
Way front (c ∷ cs) p = Way (front ++ c ∷ []) cs p ⊎ ((is_trapped c.end ≡ true) × Way front cs p)

-- the calls and their ends are among the first `events` events
abbrev pub Within : ℕ → Calls → Type 0
Within events rest = (c : SetCall) → Among c rest → (c.called < events) ×
    (has_end c.end ≡ true → ended_before c.end events ≡ true)

-- the next call was called at the place or before
abbrev pub Due : ℕ → Calls → ℕ → Type 0
Due at calls next = (next < length calls) × ((d : SetCall) → (slice_index_or calls next d).called ≤ at)

abbrev pub NotDue : ℕ → Calls → ℕ → Type 0
NotDue at calls next = next < length calls → (d : SetCall) → at < (slice_index_or calls next d).called

-- Between two events: what is placed, the calls that are open, and those that come.
pub record Between (events : ℕ) (calls : Calls) (at next : ℕ) (set : Set) (pool placed : Calls) : Type 0 where
  pub plan : (p : ℤ → Bool) → HasPlan empty (on_items p calls) → HasPlan set (on_items p (pool ++ drop next calls))
  pub distinct : Distinct (pool ++ drop next calls)
  pub up_to : (c : SetCall) → Among c pool → c.called ≤ at
  pub from : (c : SetCall) → Among c (drop next calls) → at ≤ c.called
  pub rising : Rising (drop next calls)
  pub known : (c : SetCall) → Among c (pool ++ drop next calls) → Among c calls
  pub lasts : Lasting calls → LastUntil at pool
  pub back : Lasting calls → (p : Calls) → IsPlan set (pool ++ drop next calls) p → IsPlan empty calls (placed ++ p)

-- the same, and no call of the pool ends before `end`
pub record Open (events : ℕ) (calls : Calls) (at next : ℕ) (set : Set) (pool placed : Calls) (end : ℕ) : Type 0 where
  pub between : Between events calls at next set pool placed
  pub from : at ≤ end
  pub within : end ≤ events
  pub lasts : Lasting calls → LastUntil end pool

-- Some of the calls after the front are decided on, and are now in the front.
pub record Trying (front back more left : Calls) : Type 0 where
  pub rising : Rising (more ++ left)
  pub none : NoWay more left → NoWay front back
  pub some : (p : Calls) → Way more left p → Way front back p
  pub known : (c : SetCall) → Among c (more ++ left) → Among c (front ++ back)

-- the calls of `events` events
pub record CallsOf (events : ℕ) (calls : Calls) : Type 0 where
  pub rising : Rising calls
  pub within : Within events calls
  pub lasting : Lasting calls

-- ---- the trapped calls that stay

-- there is no plan of the calls on some items, whichever trapped calls are left out
abbrev pub NoOrder : Calls → Type 0
NoOrder calls = (p : ℤ → Bool) × NoWay [] (on_items p calls)

-- the trapped calls that aren't marked are left out
abbrev pub stays : List Bool → SetCall → Bool
stays marks c = not (is_trapped c.end) || is_marked marks c.called

abbrev pub PlanOf : List Bool → Calls → ℤ → Type 0
PlanOf marks calls item = HasPlan empty (on_items (is_item item) (filter (stays marks) calls))

abbrev pub NoneTrapped : Calls → ℤ → Type 0
NoneTrapped calls item = (c : SetCall) → Among c calls → c.item ≡ item → is_trapped c.end ≡ false

-- The first calls have been looked at. Each item of a trapped call among them is settled, by marks on its own calls.
pub record Settling (calls : Calls) (looked : ℕ) (items : Set) (marks : List Bool) : Type 0 where
  pub plan : (item : ℤ) → items item ≡ true → PlanOf marks calls item
  pub seen : (c : SetCall) → Among c (take looked calls) → is_trapped c.end ≡ true → items c.item ≡ true
  pub only : (c : SetCall) → Among c calls → is_marked marks c.called ≡ true → items c.item ≡ true

-- each item has a plan by the marks, or no trapped call
abbrev pub Settled : Calls → List Bool → Type 0
Settled calls marks = (item : ℤ) → PlanOf marks calls item ⊎ NoneTrapped calls item
