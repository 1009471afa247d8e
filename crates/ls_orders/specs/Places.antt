-- Places that are marked.
use Rattle.std.specs.Prelude.{ℕ, Bool, false, List, slice_index_or}

-- a place beyond the list isn't marked
abbrev pub is_marked : List Bool → ℕ → Bool
is_marked marks place = slice_index_or marks place false
