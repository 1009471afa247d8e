-- Rows of states that were found.
use Rattle.std.specs.Prelude.{◌≡◌, ℕ, Bool, true, false, List, [], Option, None, Some, Contains, slice_get}
use Rattle.std.specs.Prelude.{slice_index_or}
use Rattle.ls_events.specs.Beginnings.{IsBeginning}
use Rattle.ls_events.specs.declared.event.Event.{Event}
use Rattle.ls_search.specs.Listed.{paths_of}
use Rattle.ls_search.specs.declared.places.Node.{Node}
use Rattle.ls_search.specs.declared.places.Seen.{Seen}
use Rattle.ls_source_rows.specs.Rows.{AreApart, IsEnd, StandAlone}
use Rattle.ls_source_rows.specs.declared.rows.Ending.{Ending}
use Rattle.ls_source_rows.specs.declared.rows.Ending.TheVariants as ending
use Rattle.ls_source_rows.specs.declared.rows.Row.{Row}

-- how a row ends, by whether a thread was seen to act, and one to wait
abbrev pub ending_by : Bool → Bool → Ending
ending_by true waits = ending.GoesOn
ending_by false true = ending.Waiting
ending_by false false = ending.Ended

abbrev pub ending_of : Option Seen → Ending
ending_of None = ending.NotSeen
ending_of (Some seen) = ending_by seen.acts seen.waits

module _ (histories : List (List Event)) (nodes : List Node) (seen : List Seen) where
  -- the row has the path, the history and the end of the state at a place
  pub record IsRowOf (at : ℕ) (r : Row) : Type 0 where
    pub node : Node
    pub here : slice_get nodes at ≡ Some node
    pub path : r.path.items ≡ slice_index_or (paths_of nodes) at []
    pub history : slice_get histories node.place.noted ≡ Some r.history.items
    pub ending : r.ending ≡ ending_of (slice_get seen at)

  -- a row has the history of the state, and ends
  pub record HasEndOf (rows : List Row) (node : Node) : Type 0 where
    pub row : Row
    pub there : Contains rows row
    pub history : slice_get histories node.place.noted ≡ Some row.history.items
    pub ends : IsEnd row.ending

  -- a row's history begins with that of the state
  pub record IsBegunBy (rows : List Row) (node : Node) : Type 0 where
    pub row : Row
    pub there : Contains rows row
    pub history : List Event
    pub is : slice_get histories node.place.noted ≡ Some history
    pub begins : IsBeginning history row.history.items

  -- Each row is of a state. Each state has a row that its history begins, and one of its own history if it ends.
  pub record TellListed (rows : List Row) : Type 0 where
    pub own : (r : Row) → Contains rows r → (at : ℕ) × IsRowOf at r
    pub ended : (at : ℕ) (node : Node) (s : Seen) → slice_get nodes at ≡ Some node → slice_get seen at ≡ Some s →
        s.acts ≡ false → HasEndOf rows node
    pub covers : (at : ℕ) (node : Node) → slice_get nodes at ≡ Some node → IsBegunBy rows node
    pub alone : StandAlone rows
    pub apart : AreApart rows
