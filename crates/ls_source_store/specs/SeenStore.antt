-- The store that the code keeps, in the terms of the definitions.
use Rattle.std.specs.Prelude.{map}
use Rattle.ls_meaning.specs.Store.{Store}
use Rattle.ls_meaning.specs.Effect.{Effect, Waits, Does}
use Rattle.ls_source_store.specs.declared.thing.Effect.{Effect as StoreEffect}
use Rattle.ls_source_store.specs.declared.thing.Effect.TheVariants.{Waits as HasToWait, Does as HasDone}
use Rattle.ls_source_store.specs.declared.store.Store.{Store as KeptStore}
use Rattle.ls_source_store.specs.SeenThing.{thing_of}

abbrev pub store_of : KeptStore → Store
store_of s = record { things = map thing_of s.things.items; names = s.names.items }

-- an outcome, with the store that it leaves
abbrev pub plain_effect : Store → StoreEffect → Effect
plain_effect s HasToWait = Waits
plain_effect s (HasDone answer) = Does s answer
