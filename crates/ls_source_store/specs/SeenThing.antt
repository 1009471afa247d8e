-- The things that the code keeps, in the terms of the definitions.
use Rattle.std.specs.Prelude.{ℕ, false, unwrap_or}
use Rattle.std.specs.Ordering.{nat_cmp}
use Rattle.std.specs.BTreeMap.{BTreeMap, get}
use Rattle.ls_events.specs.declared.value.Value.{Value}
use Rattle.ls_events.specs.declared.value.Value.TheVariants.{Boolean}
use Rattle.ls_meaning.specs.Store.{Hold, Free, HeldBy, Thing, Object, LockOf, Markable, Array}
use Rattle.ls_meaning.specs.Effect.{Change, Stays, Leaves, Holding, Awaits, Becomes}
use Rattle.ls_source_store.specs.declared.thing.Hold.{Hold as KeptHold}
use Rattle.ls_source_store.specs.declared.thing.Hold.TheVariants.{Free as KeptFree, HeldBy as KeptHeld}
use Rattle.ls_source_store.specs.declared.thing.Thing.{Thing as KeptThing}
use Rattle.ls_source_store.specs.declared.thing.Thing.TheVariants.{Object as KeptObject, Lock as KeptLock}
use Rattle.ls_source_store.specs.declared.thing.Thing.TheVariants.{Markable as KeptMarkable, Array as KeptArray}
use Rattle.ls_source_store.specs.declared.thing.Effect.{Effect as StoreEffect}
use Rattle.ls_source_store.specs.declared.thing.Effect.TheVariants.{Waits as HasToWait, Does as HasDone}

-- an item that was never written is false
abbrev pub items_of : BTreeMap ℕ Value → ℕ → Value
items_of m i = unwrap_or (get nat_cmp m i) (Boolean false)

-- what a kept hold is, and a kept thing
abbrev pub hold_of : KeptHold → Hold
hold_of KeptFree = Free
hold_of (KeptHeld owner holds) = HeldBy owner holds

abbrev pub thing_of : KeptThing → Thing
thing_of (KeptObject monitor fields) = Object (hold_of monitor) fields.items
thing_of (KeptLock hold) = LockOf (hold_of hold)
thing_of (KeptMarkable p) = Markable p
thing_of (KeptArray size items) = Array size (items_of items)

-- an outcome, with the hold that it leaves
abbrev pub plain_holding : Hold → StoreEffect → Holding
plain_holding h HasToWait = Awaits
plain_holding h (HasDone answer) = Becomes h answer

-- an outcome, with the thing that it leaves
abbrev pub plain_change : Thing → StoreEffect → Change
plain_change t HasToWait = Stays
plain_change t (HasDone answer) = Leaves t answer
