-- The store: what objects hold, and the setup names.
use Rattle.std.specs.Prelude.{ℕ, ◌-◌, ◌+◌, List, [], ◌∷◌, ◌++◌, length, Option, None, slice_get, slice_set}
use Rattle.std.specs.Prelude.{slice_index_or, nat_eq, if◌then◌else◌}
use Rattle.ls_events.specs.declared.value.Value.{Value}
use Rattle.ls_meaning.specs.Values.{nothing}

-- a lock, or the monitor of an object, is free, or a thread holds it a number of times (JLS 17.1)
pub data Hold : Type 0 where
  Free : Hold
  HeldBy : (owner holds : ℕ) → Hold

-- the thing that a reference names: an object (its monitor, and its fields in text order), a lock, a markable's pair,
-- or an array
pub data Thing : Type 0 where
  Object : (monitor : Hold) → (fields : List Value) → Thing
  LockOf : (hold : Hold) → Thing
  Markable : (pair : Value) → Thing
  -- items have indices below the size
  Array : (size : ℕ) → (items : ℕ → Value) → Thing

-- object n, counted from 1, is at index n - 1
pub record Store : Type 0 where
  pub things : List Thing
  pub names : List Value

-- the thing with a number; 0 is null
abbrev pub thing_at : Store → ℕ → Option Thing
thing_at s o = if nat_eq o 0 then None else slice_get s.things (o - 1)

abbrev pub with_thing : Store → ℕ → Thing → Store
with_thing s o t = record { things = slice_set s.things (o - 1) t; names = s.names }

-- the objects are numbered in order of making
abbrev pub with_new : Store → Thing → Store
with_new s t = record { things = s.things ++ t ∷ []; names = s.names }

abbrev pub new_number : Store → ℕ
new_number s = length s.things + 1

abbrev pub with_name : Store → ℕ → Value → Store
with_name s n v = record { things = s.things; names = slice_set s.names n v }

abbrev pub name_at : Store → ℕ → Value
name_at s n = slice_index_or s.names n nothing
