-- Rows of paths that were found.
use Rattle.std.specs.Prelude.{◌≡◌, ℕ, false, List, Some, Contains, slice_get}
use Rattle.ls_code.specs.Machine.{Machine}
use Rattle.ls_explore.specs.Rows.{AreApart, HasEnd, IsToldBy, StandAlone, Told, ending_of}
use Rattle.ls_explore.specs.Walks.{walked}
use Rattle.ls_explore.specs.declared.searching.Seen.{Seen}

module _ (n : ℕ) (root : Machine) (paths : List (List ℕ)) (seen : List Seen) where
  -- the row has the path at a place, the history of the machine to which it leads, and the end that was seen there
  pub record IsRowOf (at : ℕ) (r : Told) : Type 0 where
    pub here : slice_get paths at ≡ Some r.path
    pub history : r.history ≡ (walked n root r.path).history
    pub ending : r.ending ≡ ending_of (slice_get seen at)

  -- Each row is of a path. The history of each path begins that of a row, and is that of one that ends if the path was
  -- seen to end. The history of a row that doesn't end begins that of no other.
  pub record TellListed (rows : List Told) : Type 0 where
    pub own : (r : Told) → Contains rows r → (at : ℕ) × IsRowOf at r
    pub ended : (at : ℕ) (path : List ℕ) (s : Seen) → slice_get paths at ≡ Some path → slice_get seen at ≡ Some s →
        s.acts ≡ false → HasEnd rows (walked n root path).history
    pub covers : (at : ℕ) (path : List ℕ) → slice_get paths at ≡ Some path →
        IsToldBy rows (walked n root path).history
    pub alone : StandAlone rows
    pub apart : AreApart rows
