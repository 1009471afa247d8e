-- Configurations by numbers: of a store, and of what each thread still has to do.
use Rattle.std.specs.Prelude.{◌≡◌, ℕ, ◌<◌, List, [], Option, None, Some, length, slice_get, slice_index_or}
use Rattle.ls_meaning.specs.Course.{Answers}
use Rattle.ls_meaning.specs.Store.{Store}
use Rattle.ls_meaning.specs.Threads.{Next, Ended}
use Rattle.ls_search_laws.specs.Configuration.{Configuration}
use Rattle.ls_transitions.specs.Tables.{Table, goes_on}
use Rattle.ls_search.specs.declared.places.NumberedState.{NumberedState}

abbrev pub no_store : Store
no_store = record { things = []; names = [] }

-- what a thread does next, by the number of its work; a thread that has none has ended
abbrev pub goes_with : Table → Option ℕ → Answers → Next
goes_with t None later = Ended
goes_with t (Some work) later = goes_on t work later

abbrev pub configuration_at : Table → ℕ → List ℕ → Configuration
configuration_at t store works = record {
  store = slice_index_or t.stores store no_store;
  continues = λ u later. goes_with t (slice_get works u) later;
}

-- the store and the works have these numbers
pub record AreThere (t : Table) (store : ℕ) (works : List ℕ) : Type 0 where
  pub store_there : store < length t.stores
  pub works_there : (u work : ℕ) → slice_get works u ≡ Some work → work < length t.works

abbrev pub configuration_of : Table → NumberedState → Configuration
configuration_of t p = configuration_at t p.store p.works.items

abbrev pub IsThere : Table → NumberedState → Type 0
IsThere t p = AreThere t p.store p.works.items
