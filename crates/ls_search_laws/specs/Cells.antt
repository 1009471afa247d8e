-- Reads of fields that no other thread writes, turns and enterings: they may be taken at once.
use Rattle.std.specs.Prelude.{◌≡◌, ◌≢◌, ◌⊎◌, ℕ, Bool, true, false, not, ◌&&◌, nat_eq}
use Rattle.ls_events.specs.declared.value.Value.{Value}
use Rattle.ls_events.specs.declared.action.Action.{Action}
use Rattle.ls_events.specs.declared.action.Action.TheVariants.{ReadField, WriteField, Turn, Enter}
use Rattle.ls_events.specs.declared.action.Answer.TheVariants.{Gives}
use Rattle.ls_checked.specs.CheckedTree.{File}
use Rattle.ls_meaning.specs.Renamings.{IsRenaming}
use Rattle.ls_search_laws.specs.AtOnce.{Choice}
use Rattle.ls_search_laws.specs.Search.{IsFair, IsUnnoticed}

-- of which objects a thread reads which fields at once
abbrev pub Cells : Type 0
Cells = (thread object field : ℕ) → Bool

-- turns, enterings and the reads of these fields, by each thread but the setup
abbrev pub by_cells : Cells → Choice
by_cells cells t (ReadField o f) (Gives v) = not (nat_eq t 0) && cells t o f
by_cells cells t Turn x = not (nat_eq t 0)
by_cells cells t (Enter m) x = not (nat_eq t 0)
by_cells cells t a x = false

-- the action doesn't write this field of this object
abbrev pub SparesField : Action Value → ℕ → ℕ → Type 0
SparesField (WriteField o f v) o' f' = (o ≢ o') ⊎ (f ≢ f')
SparesField _ o' f' = Unit {0}

-- the action writes no field that another thread reads at once
abbrev pub Spares : Cells → ℕ → Action Value → Type 0
Spares cells t action = (u o f : ℕ) → t ≢ u → cells u o f ≡ true → SparesField action o f

abbrev pub IsIdentity : (ℕ → ℕ) → Type 0
IsIdentity names = (n : ℕ) → names n ≡ n

-- without renaming, cells may be chosen one by one
pub record CellsAreFair (cells : Cells) : Type 0 where
  pub fair : IsFair (by_cells cells) IsIdentity
  pub unnoticed : (file : File) (t : ℕ) (action : Action Value) → Spares cells t action →
      IsUnnoticed (by_cells cells) IsIdentity file t action

abbrev pub AllCellsAreFair : Type 0
AllCellsAreFair = (cells : Cells) → CellsAreFair cells

abbrev pub no_cells : Cells
no_cells thread object field = false

-- with whatever renamings, turns and enterings may be chosen, and nothing need be asked of the list
pub record TurnsAreFair : Type 0 where
  pub fair : IsFair (by_cells no_cells) IsRenaming
  pub unnoticed : (file : File) (t : ℕ) (action : Action Value) → IsUnnoticed (by_cells no_cells)
      IsRenaming file t action
