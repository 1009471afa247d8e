-- Values that name no object.
use Rattle.std.specs.Prelude.{◌≡◌, ℕ, List, All}
use Rattle.ls_events.specs.declared.value.Value.{Value}
use Rattle.ls_meaning.specs.Renamings.{renamed}

-- a value is the same whatever numbers objects have
abbrev pub IsNameless : Value → Type 0
IsNameless v = (names : ℕ → ℕ) → renamed names v ≡ v

-- so is each written item of an array
abbrev pub NameNoObject : List (ℕ × Value) → Type 0
NameNoObject entries = All (λ e. IsNameless e.1) entries
