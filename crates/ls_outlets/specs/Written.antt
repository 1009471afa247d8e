-- What is written of some bytes.
use Rattle.std.specs.Prelude.{◌≡◌, ◌≤◌, ℕ, List, Bool, true, Option, MatchBool, length, take}
use Rattle.std.specs.Io.KnownBytes.{Appends}

-- a beginning of the bytes went to the writer
abbrev pub Begins : Option (List ℕ) → Option (List ℕ) → List ℕ → Type 0
Begins old new bytes = (n : ℕ) × (n ≤ length bytes) × Appends old new (take n bytes)

-- all of the bytes are written, or a beginning of them, and the writer has failed
abbrev pub IsWritten : List ℕ → Bool → Option (List ℕ) → Option (List ℕ) → Bool → Type 0
IsWritten bytes is_written old new has_failed = MatchBool is_written (Appends old new bytes)
    (Begins old new bytes × (has_failed ≡ true))
