-- Which lists of threads are walks.
use Rattle.std.specs.Prelude.{◌≡◌, ◌≢◌, ℕ, ◌+◌, ◌<◌, ◌≤◌, List, All, Option, None, Some, length, slice_get}
use Rattle.std.specs.Option.{option_and_then}
use Rattle.ls_choices.specs.Rows.{Graph, Row}
use Rattle.ls_choices.specs.Walks.{words_along}
use Rattle.ls_choices.specs.declared.reach.Reach.{Reach}
use Rattle.ls_choices.specs.declared.reach.Reach.TheVariants as reaches

-- a list of threads with numbers below this is a walk
abbrev pub IsWalk : ℕ → Graph → List ℕ → Type 0
IsWalk count g threads = All (λ t. t < count) threads → words_along g 0 threads ≢ None

-- each list of threads is, or each that has no more steps than so many
abbrev pub IsReach : ℕ → Graph → Reach → Type 0
IsReach count g reaches.All = (threads : List ℕ) → IsWalk count g threads
IsReach count g (reaches.UpTo steps) = (threads : List ℕ) → length threads ≤ steps → IsWalk count g threads

-- the state to which a thread's step leads, if that is kept
abbrev pub target_in : List Row → ℕ → Option ℕ
target_in rows thread = option_and_then (λ row. row.to) (slice_get rows thread)

-- the step of one of so many threads leads to no state that is kept
pub record IsCutOff (count : ℕ) (rows : List Row) : Type 0 where
  pub thread : ℕ
  pub within : thread < count
  pub nowhere : target_in rows thread ≡ None

-- that of some thread in some state does
pub record LeavesOut (count : ℕ) (g : Graph) : Type 0 where
  pub number : ℕ
  pub rows : List Row
  pub found : slice_get g.rows number ≡ Some rows
  pub cut : IsCutOff count rows

-- Steps are left out exactly if it isn't said that each list is a walk.
abbrev pub TellsLeftOut : ℕ → Graph → Reach → Type 0
TellsLeftOut count g reaches.All = ¬ LeavesOut count g
TellsLeftOut count g (reaches.UpTo steps) = LeavesOut count g

-- there is a state, and each row leads to a state with rows, or to none that is kept
pub record IsClosed (g : Graph) : Type 0 where
  pub begins : 0 < length g.rows
  pub within : (number thread to : ℕ) (rows : List Row) → slice_get g.rows number ≡ Some rows →
      target_in rows thread ≡ Some to → to < length g.rows

-- a row leads to one of so many states, at most one step further from the first state
pub record LeadsNear (depth : ℕ → ℕ) (total here : ℕ) (row : Row) : Type 0 where
  pub to : ℕ
  pub is : row.to ≡ Some to
  pub within : to < total
  pub near : depth to ≤ here + 1

abbrev pub AllLeadNear : (ℕ → ℕ) → ℕ → ℕ → List Row → Type 0
AllLeadNear depth total here rows = (thread : ℕ) (row : Row) → slice_get rows thread ≡ Some row →
    LeadsNear depth total here row

-- each thread has a row, and each row leads on if the state is fewer than so many steps from the first
pub record IsStateKept (steps count : ℕ) (depth : ℕ → ℕ) (total here : ℕ) (rows : List Row) : Type 0 where
  pub threads : count ≤ length rows
  pub leads : here < steps → AllLeadNear depth total here rows

-- this holds of each state
pub record AreKept (steps count : ℕ) (depth : ℕ → ℕ) (g : Graph) : Type 0 where
  pub begins : 0 < length g.rows
  pub first : depth 0 ≡ 0
  pub states : (number : ℕ) (rows : List Row) → slice_get g.rows number ≡ Some rows →
      IsStateKept steps count depth (length g.rows) (depth number) rows
