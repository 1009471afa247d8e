-- Stores and works that are others under other numbers of objects.
use Rattle.std.specs.Prelude.{◌≡◌, ℕ, ◌+◌, ◌-◌, ◌≤◌, List, [], ◌∷◌, Some, length, slice_get}
use Rattle.ls_meaning.specs.Renamings.{IsRenaming}
use Rattle.ls_meaning.specs.Store.{Store, Thing}
use Rattle.ls_search_laws.specs.Renaming.{IsRenamedStore, renamed_thing}
use Rattle.ls_source.specs.Calls.{Thread}
use Rattle.ls_transitions.specs.Tables.{Table}
use Rattle.ls_works.specs.Frames.{ThreadHasConstants, renamed_thread}

-- a number at a place has that place at the number
pub record IsPlaced (back : List ℕ) (place number : ℕ) : Type 0 where
  pub least : 1 ≤ number
  pub most : number ≤ length back
  pub here : slice_get back (number - 1) ≡ Some (place + 1)

-- so have these, from a place on
abbrev pub ArePlaced : List ℕ → ℕ → List ℕ → Type 0
ArePlaced back place [] = Unit {0}
ArePlaced back place (number ∷ numbers) = IsPlaced back place number × ArePlaced back (place + 1) numbers

-- the thing of a number is this one under other numbers
pub record IsThingThere (names : ℕ → ℕ) (thing : Thing) (others : List Thing) (number : ℕ) : Type 0 where
  pub least : 1 ≤ number
  pub here : slice_get others (number - 1) ≡ Some (renamed_thing names thing)

-- so are those of numbers, one by one
abbrev pub AreThingsThere : (ℕ → ℕ) → List ℕ → List Thing → List Thing → Type 0
AreThingsThere names (number ∷ numbers) (thing ∷ things) others =
    IsThingThere names thing others number × AreThingsThere names numbers things others
AreThingsThere names numbers things others = Unit {0}

-- a store is another under other numbers
pub record IsStoreThere (t : Table) (names : ℕ → ℕ) (store other : ℕ) : Type 0 where
  pub new : Store
  pub new_is : slice_get t.stores other ≡ Some new
  pub old : Store
  pub old_is : slice_get t.stores store ≡ Some old
  pub same : IsRenamedStore names new old

-- so is a work, whose constants name no object
pub record IsWorkThere (t : Table) (names : ℕ → ℕ) (work other : ℕ) : Type 0 where
  pub thread : Thread
  pub new_is : slice_get t.works other ≡ Some thread
  pub old_is : slice_get t.works work ≡ Some (renamed_thread names thread)
  pub constants : ThreadHasConstants thread

-- and so are works, one by one
abbrev pub AreWorksThere : Table → (ℕ → ℕ) → List ℕ → List ℕ → Type 0
AreWorksThere t names works others = (place other : ℕ) → slice_get others place ≡ Some other →
    (work : ℕ) × (slice_get works place ≡ Some work) × IsWorkThere t names work other

-- a store and works are others under other numbers
pub record IsRenumbered (t : Table) (store : ℕ) (works : List ℕ) (other : ℕ) (others : List ℕ) : Type 0 where
  pub names : ℕ → ℕ
  pub renaming : IsRenaming names
  pub store_there : IsStoreThere t names store other
  pub width : length others ≡ length works
  pub works_there : AreWorksThere t names works others
